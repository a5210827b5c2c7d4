pub mod PortWidths
pub mod Texts
pub mod DumpedRuns
