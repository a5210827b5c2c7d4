pub mod Careful
pub mod Use
pub mod Cut
pub mod Runs
