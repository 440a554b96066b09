-- The test of a pixel, and the flags that tell how it came out.
pub mod Flags
