-- The proof of the re-exposure theorem, lowest first.
pub mod OrderLaws
pub mod Links
pub mod SamePairs
pub mod Theorem
pub mod Tolerance1Laws
pub mod BlankSeriesLaws
pub mod FlatSeriesLaws
