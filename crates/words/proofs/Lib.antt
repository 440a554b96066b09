-- Laws of bits, words and moved rows, for the proofs of the crates that pack, shift and count.
pub mod BitLaws
pub mod MoveLaws
pub mod JoinLaws
pub mod PartLaws
pub mod MovedRowLaws
pub mod MovedRowExampleLaws
