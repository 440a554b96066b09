-- What the bitmaps of a level require and give, in terms of document 01's definitions.
pub mod FrameSides
pub mod Excluded
pub mod LevelPlanes
