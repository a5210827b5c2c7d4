pub mod Items
pub mod Stages
pub mod Begun
pub mod Staged
