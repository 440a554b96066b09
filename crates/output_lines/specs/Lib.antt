-- The printed lines; then what a function that puts text has done.
pub mod Lines
pub mod Writes
