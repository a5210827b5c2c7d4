pub mod Sides
pub mod HasSides
pub mod WholeNetlist
pub use Rattle.pdl_machine_inflight.specs.Readings
pub use Rattle.pdl_machine_inflight.specs.Slots
pub use Rattle.pdl_law_parts.specs.Walk
