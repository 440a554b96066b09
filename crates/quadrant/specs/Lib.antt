-- The offset of a quadrant.
pub mod QuadrantPairs
