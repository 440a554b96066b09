-- Laws of bytes brought together by colour, for the functions' proofs.
pub mod ColourLaws
