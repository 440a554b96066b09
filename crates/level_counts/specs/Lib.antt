-- The numbers of a level at its nine candidates.
pub mod NineCounts
