pub mod Nth
pub mod PlaceStages
mod Bits
