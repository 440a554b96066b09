-- When offsets tell of a turn.
pub mod Turns
