pub mod Tokens
pub mod Pieces
pub mod Cursor
pub mod Words
pub mod Grammar
pub mod Drafts
pub mod Text
pub mod Read
