pub mod StagewiseActs
pub mod StagewisePorts
pub mod Stagewise
pub mod Requests
pub mod PlainWords
pub mod StatementUses
pub mod TwiceFlags
pub use Rattle.pdl_theory_simulation.proofs.theory_turns
