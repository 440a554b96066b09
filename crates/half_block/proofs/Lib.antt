-- Laws of rows halved block by block, for the proofs of the crates above.
pub mod HalfLaws
