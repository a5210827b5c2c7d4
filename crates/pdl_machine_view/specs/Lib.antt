pub mod Viewed
pub mod Lines
