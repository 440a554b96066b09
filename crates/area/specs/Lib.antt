-- The common area, and what its sides are worked out from.
pub mod Common
pub mod Sides
