pub mod Memory
pub mod OneBit
