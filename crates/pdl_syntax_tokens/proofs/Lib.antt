mod Examples
mod Values
mod Steps
pub mod OtherKinds
