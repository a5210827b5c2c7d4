pub mod View
pub mod Memory
pub mod KeptWords
