pub mod CommitPorts
pub mod CycleLines
pub mod RunSteps
