pub mod FileMap
pub mod ToldAnswers
