mod Examples
pub mod OldestFirst
pub mod PastStatements
pub mod UnusedValues
pub mod Trails
pub mod ThreadHistory
pub mod FetchCounts
pub mod OlderWrites
pub mod Guessed
pub mod Stage
pub mod ThreadFacts
pub mod ReachedStates
pub mod Order
pub mod Points
pub mod AllThreads
pub mod EveryState
pub mod TurnThreads
pub mod OwnEntries
pub mod Releases
pub mod StillLooks
mod TurnByTurn
pub mod PendingLists
pub mod OwnWrites
pub mod LockCycle
pub mod LockRelease
pub mod LockUse
pub mod Holders
pub mod Followers
