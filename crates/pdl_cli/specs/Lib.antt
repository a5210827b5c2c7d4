pub mod Words
pub mod Alike
pub mod Top
pub mod Told
