pub mod Reserved
pub mod Carried
pub mod Tails
