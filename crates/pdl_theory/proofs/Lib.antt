pub mod Unsure
pub mod Spots
pub mod StrayCommits
pub mod Cycles
pub mod ThreadCycle
pub mod Follows
pub mod Cycle
pub mod Refine
pub mod Rates
pub mod Outer
pub mod SoundTests
pub mod TestedPaths
pub mod SoundExamples
pub mod StatedTheorems
pub mod OneStages
mod UpdatesLeftOut
pub mod NotUpdated
