-- Laws of answers as C gets them.
pub mod FitLaws
