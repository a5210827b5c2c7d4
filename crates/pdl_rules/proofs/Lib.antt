pub mod Texts
mod Rows
mod ForkRows
mod GuessRows
mod AdviceRows
mod AcceptedRows
pub mod FirstPlaces
pub mod Counts
pub mod SingleWrites
pub mod FirstReserves
pub mod TypedExpressions
pub mod KnownVariables
pub mod Memories
pub mod ToldMemories
pub mod Unbroken
pub mod Guards
pub mod EachPlace
