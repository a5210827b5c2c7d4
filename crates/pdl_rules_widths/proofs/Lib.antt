pub mod Literals
pub mod Entries
pub mod LowestRule
pub mod AdvisedPlaces
