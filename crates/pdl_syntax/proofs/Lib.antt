mod Stacks
mod Operators
pub mod AutomatonRuns
pub mod Answers
