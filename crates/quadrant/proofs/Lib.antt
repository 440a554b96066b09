-- Laws of a quadrant's alignment.
pub mod QuadrantLaws
