pub mod ValueWidths
mod SecondWrites
