pub mod Lowest
pub mod Earlier
