-- Laws of the runs.
pub mod RunLaws
