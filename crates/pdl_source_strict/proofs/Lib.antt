mod FreshVariables
mod Guesses
mod LetGo
pub mod Paths
