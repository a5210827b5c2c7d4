pub mod States
pub mod Strict
pub mod Use
