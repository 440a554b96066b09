-- What the functions on packed words work out, as definitions.
pub mod Rows
pub mod Moves
pub mod MovedRows
pub mod MovedRowExamples
