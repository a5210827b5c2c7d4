pub mod Lines
pub mod Nth
pub mod Steps
