-- Laws of numbers as text and of text put into a buffer.
pub mod ReadLaws
pub mod DigitLaws
pub mod PutLaws
