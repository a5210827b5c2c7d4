pub mod ReservedTickets
pub mod TailRegisters
pub mod Rows
pub mod AllRows
pub mod LineTails
