pub mod Readings
pub mod Ports
pub use Rattle.pdl_law_sides.specs as law_sides
