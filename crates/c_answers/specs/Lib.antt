-- What the C functions give.
pub mod Values
