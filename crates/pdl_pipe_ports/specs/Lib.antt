pub mod ToldOutputs
pub mod OutputList
pub mod Inputs
