pub mod PortGrowth
pub mod MadeRegisters
pub mod Steps
pub mod Bits
pub mod Law
pub mod PlacedRegisters
