pub mod Safe
pub mod Widths
