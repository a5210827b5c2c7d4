pub mod Driven
pub mod Beside
