-- Blocks of 32 pixels.
pub mod GreyBlocks
