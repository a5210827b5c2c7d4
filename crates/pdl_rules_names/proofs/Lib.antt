pub mod Comparisons
pub mod Firsts
pub mod SingleDefinitions
pub mod GivenNames
pub mod LastSeparator
pub mod MissingDefinitions
pub mod Needs
pub mod OuterBranches
