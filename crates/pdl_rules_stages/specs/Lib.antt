pub mod Stages
pub mod Astray
pub mod PathBits
