pub mod Derived
pub mod Alone
pub mod Simulation
pub mod OneStage
pub mod Scans
pub mod GuessScans
pub mod Graphs
pub mod Facts
pub mod SoundChecks
pub mod Accepted
pub mod Checks
pub use Rattle.pdl_semantics.specs as semantics
