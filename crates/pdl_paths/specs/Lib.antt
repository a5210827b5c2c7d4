pub mod Actions
pub mod Guards
pub mod KeptGuards
pub mod Masks
pub mod Declarations
pub mod Paths
pub mod Numbered
