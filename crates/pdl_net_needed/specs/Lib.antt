pub mod Needed
pub mod Pruned
pub mod Marks
pub mod Numbers
pub mod Marking
