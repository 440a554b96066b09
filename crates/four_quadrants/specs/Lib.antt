-- The offsets of the four quadrants.
pub mod FourOffsets
