pub mod OutLists
pub mod OutShows
pub mod InputLists
pub mod RequestPorts
