pub mod Used
pub mod MadeLine
pub mod Emitted
pub use Rattle.pdl_pipe_tails.specs as pipe_tails
pub use Rattle.pdl_pipe_moves.specs as pipe_moves
