-- A number of bytes within a buffer.
pub mod Counts
