-- What the quadrants call leaves.
pub mod QuadrantsCalls
