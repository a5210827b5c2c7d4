pub mod Course
pub mod Aside
