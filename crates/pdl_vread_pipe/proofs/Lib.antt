pub mod Strips
pub mod Depths
pub mod PipePorts
pub mod TestAnswers
pub mod MemorySearch
pub mod Pipes
