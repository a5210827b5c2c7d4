pub mod CountSteps
pub mod GuardSteps
pub mod LowestLimit
mod ForkSteps
pub mod ForkLines
pub mod ForkCounts
mod LowestRule
mod GuardCount
mod FirstBrokenRule
