pub mod Tokens
pub mod Cursor
pub mod DigitValues
pub mod Pieces
pub mod Spelt
