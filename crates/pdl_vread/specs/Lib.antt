pub mod Built
pub mod Reads
