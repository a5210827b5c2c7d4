pub mod StageFacts
pub mod Visits
pub use Rattle.pdl_theory_turns.specs.Facts
