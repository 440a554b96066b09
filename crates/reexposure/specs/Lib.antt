-- What the re-exposure theorem says, and statements about whole series beside it.
pub mod Reexposure
pub mod Tolerance1
pub mod BlankSeries
pub mod FlatSeries
