-- The settings of a series.
pub mod Settings
