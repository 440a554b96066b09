-- What an accepted quadrants call knows.
pub mod QuadrantRefusalLaws
