pub mod View
pub mod Form
pub mod FormView
pub mod Sides
