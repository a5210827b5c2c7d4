pub mod Counts
pub mod Over
pub mod LimitLines
pub mod ForkOrder
pub mod Known
pub mod OrderedRules
pub use Rattle.pdl_spec.specs.Plan
pub use Rattle.pdl_rules_names.specs.Order as NameOrder
