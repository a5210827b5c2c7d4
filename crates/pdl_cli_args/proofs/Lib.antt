pub mod Numerals
pub mod ParseResults
pub mod Examples
