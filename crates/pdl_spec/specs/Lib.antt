pub mod Called
pub mod Verified
pub mod Sure
pub mod Checked
pub mod WalkLines
pub mod Plan
pub mod Updated
