-- The whitespace of P6 headers: the grammar, and how long it is.
pub mod Whitespace
pub mod Blanks
