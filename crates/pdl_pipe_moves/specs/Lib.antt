pub mod Inside
pub mod Gates
pub mod Signs
pub mod StageSquashes
pub mod Passed
