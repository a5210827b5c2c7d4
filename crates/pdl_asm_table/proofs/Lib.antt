pub mod Examples
pub mod Entries
pub mod Joins
pub mod PassedAnswers
pub mod Members
