pub mod Texts
pub mod Pipes
pub mod Features
mod SequentialRows
pub mod MachineRows
pub mod WrongMachines
pub mod FeatureRows
mod SoundRows
pub mod Readiness
pub mod Facts
pub mod Updates
pub mod UpdateFree
pub mod SecondWrites
pub mod Advice
pub mod AdviceApart
pub mod SquashStages
pub use Rattle.pdl_word.proofs.Bools
pub use Rattle.pdl_word.proofs.Bytes
pub use Rattle.pdl_word.proofs.Lists
