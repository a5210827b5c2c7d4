pub mod Locks
pub mod KeptPlaces
pub mod Infos
pub mod Emitted
pub mod Names
pub mod NamedNets
