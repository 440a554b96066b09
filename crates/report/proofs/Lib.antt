-- Laws of the output, for the functions' proofs; how much of its files `bracket` has to read; the printed case.
pub mod ReadLimits
pub mod OutputLaws
pub mod PrintedCaseLaws
