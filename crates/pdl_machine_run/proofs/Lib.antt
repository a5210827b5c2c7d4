mod Places
pub mod TakenOut
pub mod AdviceCounts
mod AdviceWrites
pub mod MoverDeeds
pub mod ActLists
pub mod AnswerLists
pub mod StageMoves
pub mod PortValues
pub mod FirstState
pub mod ArgumentWidths
pub mod DeedWidths
pub mod Rows
pub mod CarriedDeeds
pub mod LocksReady
pub mod PortCounts
pub mod Movers
pub mod Memories
pub mod MemorySteps
pub mod MachineCycles
pub mod ActedThreads
pub mod AdvisedMemories
pub mod ThreadInvariants
pub mod Roomy
pub mod Turns
