pub mod First
pub mod Index
pub mod Ready
pub mod Early
pub mod Order
