-- Laws of runs of words.
pub mod WordRunLaws
