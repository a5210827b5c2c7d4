pub mod Port
pub mod Laws
pub mod Places
pub mod Nets
