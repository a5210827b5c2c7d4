pub mod Signed
pub mod Requests
pub mod HeldLocations
pub mod StagesByText
pub mod LetterPlaces
pub mod NetlistTexts
pub mod CommandLines
