-- What the search for the least count keeps.
pub mod Leading
