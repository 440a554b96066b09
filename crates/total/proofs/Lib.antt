-- Laws of the total of a bitmap.
pub mod TotalLaws
