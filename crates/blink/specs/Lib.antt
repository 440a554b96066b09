-- The blink row.
pub mod Blink
