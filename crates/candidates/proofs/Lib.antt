-- Laws of the nine candidates.
pub mod StepLaws
