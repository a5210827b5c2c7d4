pub mod Parts
pub mod Change
pub mod Operators
pub mod Distinct
pub mod FoldedCells
pub mod Rules
