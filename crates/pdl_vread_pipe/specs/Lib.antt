pub mod ToldParts
pub mod Tests
pub mod ExpectedPorts
