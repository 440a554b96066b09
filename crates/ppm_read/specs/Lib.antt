-- P6 files: how they are read.
pub mod P6
pub mod Reads
