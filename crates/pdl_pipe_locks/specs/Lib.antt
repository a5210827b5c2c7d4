pub mod Suited
pub mod Lawful
pub mod NewMemories
pub mod Deeds
pub mod Ports
pub mod Round
pub mod Stepped
pub mod Advised
