pub mod ResumedWrites
pub mod Fits
