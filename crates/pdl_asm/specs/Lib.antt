pub mod Lines
pub mod Values
pub mod Assembly
pub mod Slots
pub mod Places
pub mod ReadBack
pub mod Numbers
