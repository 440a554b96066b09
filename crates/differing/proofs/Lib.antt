-- Laws of the tally of two frames.
pub mod KeptLaws
pub mod DifferLaws
