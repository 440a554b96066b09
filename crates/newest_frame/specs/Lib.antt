-- What is left once a new frame has taken the place of the newest.
pub mod NewestFrames
