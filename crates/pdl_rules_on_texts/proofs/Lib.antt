pub mod Nth
pub mod FirstMatch
pub mod LineSteps
