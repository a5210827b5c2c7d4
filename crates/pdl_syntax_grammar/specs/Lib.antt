pub mod Grammar
pub mod Text
pub mod ReadingExprs
pub mod Reading
pub mod Automaton
pub mod Read
