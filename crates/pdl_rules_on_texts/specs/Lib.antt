pub mod Refused
pub mod NotedLine
