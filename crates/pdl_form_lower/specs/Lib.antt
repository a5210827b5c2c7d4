pub mod Variables
pub mod Sized
pub mod Lowerable
pub mod Walking
