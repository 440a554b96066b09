-- Numbers and text as bytes.
pub mod Digits
pub mod Puts
