pub mod Wired
pub mod Places
pub mod Scopes
