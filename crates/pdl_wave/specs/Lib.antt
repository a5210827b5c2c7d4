pub mod Moments
pub mod Dump
pub mod Wave
