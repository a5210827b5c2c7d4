pub mod Unbroken
pub mod Expressions
pub mod VariableWidths
pub mod MemorySizes
pub mod CheckAnswers
pub mod Parts
