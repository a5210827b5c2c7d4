pub mod NetLists
pub mod ListSteps
pub mod Operands
pub mod SignalValues
