pub mod Dictionaries
pub mod Names
pub mod Tables
pub mod Documents
