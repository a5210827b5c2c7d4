pub mod Numbering
pub mod Shortness
pub mod Rows
