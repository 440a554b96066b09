-- The words of a moved row, and runs of them.
pub mod MovedParts
pub mod Runs
