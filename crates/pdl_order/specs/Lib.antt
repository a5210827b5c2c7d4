pub mod Order
pub mod Laws
pub mod Words
pub mod Nets
