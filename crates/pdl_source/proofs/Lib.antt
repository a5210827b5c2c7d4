pub mod Words
pub mod RemainingTokens
pub mod Statements
pub mod Texts
pub mod RunPromises
mod Examples
pub mod AcceptedExamples
mod ThinPlaces
mod ThinStages
mod ThinNames
mod ThinForks
mod ThinLocks
mod ThinGuesses
mod ThinRules
