pub mod ExitStatus
pub mod Refusals
pub mod SameRun
pub mod ToldFiles
pub mod WordFaults
pub mod CycleLimits
