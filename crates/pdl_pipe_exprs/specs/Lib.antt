pub mod Nets
pub mod Conditions
pub mod Values
