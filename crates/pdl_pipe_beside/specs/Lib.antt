pub mod Parts
pub mod Ports
pub mod Orders
pub mod Ends
pub mod Steps
pub mod Requests
pub mod Beside
pub mod Squashed
