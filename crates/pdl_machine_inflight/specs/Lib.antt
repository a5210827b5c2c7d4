pub mod Readings
pub mod InFlight
pub use Rattle.pdl_machine_facts.specs.Ports
pub use Rattle.pdl_machine_facts.specs.Slots
