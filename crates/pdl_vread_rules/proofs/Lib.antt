pub mod Passes
pub mod Blocks
pub mod Reach
pub mod ConstantWidths
pub mod QuestionSteps
pub mod Owners
pub mod OnceRows
