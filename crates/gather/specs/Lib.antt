-- What the gathering functions say of bytes, bits and words.
pub mod Gathers
