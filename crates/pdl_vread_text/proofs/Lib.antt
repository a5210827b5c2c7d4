pub mod Steps
pub mod Rules
pub mod Complete
pub mod Fields
pub mod Place
