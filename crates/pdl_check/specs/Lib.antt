pub mod Narrow
pub mod Answers
pub mod Made
