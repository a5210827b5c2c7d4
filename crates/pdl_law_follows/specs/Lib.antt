pub mod StandingStates
pub mod Outside
pub mod MadeNetlist
pub mod Memories
pub mod Follows
pub mod Runs
pub mod Refined
pub mod Promised
