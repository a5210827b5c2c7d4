pub mod formers
pub mod Counts
pub mod Sinks
pub mod SinkInMemory
pub mod Rules
