pub mod Limits
pub mod MarkedTokens
pub mod Looks
