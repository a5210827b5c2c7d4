pub mod Sweeps
pub mod WordBounds
mod DroppedWrites
