pub mod ReadingSteps
pub mod PortAnswers
pub mod Bits
