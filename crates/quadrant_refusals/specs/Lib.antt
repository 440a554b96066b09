-- When the quadrants call refuses, and what an accepted one knows.
pub mod QuadrantRefusals
