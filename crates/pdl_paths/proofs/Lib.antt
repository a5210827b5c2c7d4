mod Bits
mod PathBits
pub mod Choices
mod MaskPaths
pub mod DistinctGuards
mod EachPath
mod Walks
mod Numbers
mod Parts
mod MaskedPlaces
mod Nth
