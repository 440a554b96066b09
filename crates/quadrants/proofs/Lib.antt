-- The answer as the call gives it.
pub mod LeftLaws
