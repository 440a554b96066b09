-- The moved frame, and what its rows are written from.
pub mod Moved
pub mod Spans
