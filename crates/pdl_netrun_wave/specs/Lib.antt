pub mod Dumped
pub mod Cycles
