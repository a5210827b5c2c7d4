pub mod App
pub mod Told
pub mod Number
pub mod Line
pub mod View
