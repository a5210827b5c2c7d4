pub mod Laws
pub mod Nets
