-- Definitions that the contracts cite.
pub mod Tallies
pub mod Held
