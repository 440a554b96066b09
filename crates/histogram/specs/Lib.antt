-- The counts of a list's grey values, and the tables that they are counted in.
pub mod Counts
pub mod Tables
