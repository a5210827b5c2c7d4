mod DepthLevels
mod Rows
mod Top
mod Automaton
mod GoodTokens
mod GoodExpr
mod GoodItems
mod GoodBranches
mod GoodText
mod UniqueTrees
mod ReaderLaws
pub mod ReaderLimits
pub mod Places
