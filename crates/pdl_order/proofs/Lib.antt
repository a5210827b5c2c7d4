pub mod OrderGrowth
pub mod Lists
pub mod Law
