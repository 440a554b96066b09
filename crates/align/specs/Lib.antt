-- What the recursive alignment requires and gives.
pub mod Aligns
