-- Laws of rows in their places.
pub mod PlacedRowLaws
