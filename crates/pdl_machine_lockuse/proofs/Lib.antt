pub mod Acts
pub mod Paths
pub mod Reservations
pub mod HeldLocations
pub mod FewerReserves
pub mod StageStatements
pub mod LetIn
pub mod Begins
pub mod OwnPlaces
pub mod OwnWrite
pub mod ReleaseBarriers
pub mod Tails
pub mod Owns
pub mod Cuts
pub mod Awaits
pub mod InUse
pub mod InRuns
pub mod BlockedFirst
pub mod FromRules
pub mod CarefulTest
mod Examples
pub mod Slotwise
pub mod ReleaseOrder
pub use Rattle.pdl_source_strict.proofs.Paths as StrictPaths
