pub mod OrderSteps
pub mod WaitingPorts
pub mod WaitingStep
pub mod AdvisedAnswers
pub mod PortSides
pub mod PortsNext
pub mod Removals
pub mod OrderSides
pub mod Tails
pub mod SquashSides
mod SquashFolds
pub mod WholeCycle
pub mod Stores
pub mod Requests
pub mod OutputNames
pub mod WholeOutputs
pub mod NextStores
pub mod WholeRuns
pub mod DelayedReads
mod AdviceFacts
pub mod FromRules
mod OwnPending
pub mod CycleFacts
pub mod Places
pub mod WholeStart
pub mod ShowsSource
pub mod Memories
pub mod PortNames
pub mod Ports
pub mod Arrays
pub mod WellFormed
pub mod HasMems
pub mod FollowsMade
pub mod LinesPorts
pub mod Lines
pub mod Sequential
pub mod Images
pub mod FollowsLike
