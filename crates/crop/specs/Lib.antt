-- Crops of rasters, and the quadrants of a frame.
pub mod Crops
pub mod Quadrants
