pub mod Numbering
pub mod StageWays
pub mod Branches
pub mod Forms
pub mod Widths
pub mod PipeSizes
