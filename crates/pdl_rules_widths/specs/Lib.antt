pub mod Variables
pub mod Rules
pub mod Order
pub mod Lines
pub mod Advice
