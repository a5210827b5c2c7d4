pub mod Slots
pub mod Ports
pub mod Cycle
pub mod Use
