pub mod LineGrowth
pub mod ArrivalNets
pub mod BirthsMade
pub mod BroughtItems
pub mod NextsMade
pub mod ConnectedRegisters
pub use Rattle.pdl_pipe_registers.proofs as pipe_registers
