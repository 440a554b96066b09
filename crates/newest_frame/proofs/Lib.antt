-- Laws of the newest frame.
pub mod NewestLaws
