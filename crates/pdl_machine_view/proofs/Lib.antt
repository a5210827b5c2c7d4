pub mod Letters
pub mod ViewedRuns
