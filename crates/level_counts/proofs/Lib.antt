-- Laws of the candidates of a column.
pub mod CandidateLaws
