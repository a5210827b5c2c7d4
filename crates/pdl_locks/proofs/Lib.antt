mod Results
mod FirstMatch
mod KeyNumbers
pub mod UseSteps
pub mod UseLaws
pub mod FirstReserved
pub mod OpenLocations
mod BoundedCounts
pub mod WriteTurns
mod Lines
mod LateReads
pub mod LowestRule
