-- Laws of the settings line, for the functions' proofs; how much of its input `bracket` has to read for it.
pub mod LineLaws
pub mod LineLimit
