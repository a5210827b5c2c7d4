pub mod Lines
pub mod Arrivals
pub mod Brings
pub mod Nexts
pub use Rattle.pdl_pipe_registers.specs as pipe_registers
