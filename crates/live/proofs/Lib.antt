-- Laws of the held memory and of the refusals of the live bracket's calls.
pub mod HeldLaws
pub mod LimitLaws
pub mod StepLaws
