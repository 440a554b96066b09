-- Laws for the proofs of the packing functions.
pub mod OutsideLaws
