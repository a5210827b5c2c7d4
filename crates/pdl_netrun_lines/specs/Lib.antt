pub mod Printed
pub mod Tally
