pub use Rattle.pdl_law_parts.proofs.Signals
