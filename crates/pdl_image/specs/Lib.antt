pub mod Lines
pub mod Images
pub mod Delays
pub mod Slots
