-- The shift as its rows are worked out.
pub mod ShiftPlaces
