pub mod Turns
pub mod Fits
pub mod Runs
pub mod Inside
