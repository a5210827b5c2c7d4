pub mod Graph
pub mod Forks
