pub mod Words
pub mod Sources
pub mod Names
pub mod Ports
pub mod SourceDumps
