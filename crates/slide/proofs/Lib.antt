-- Laws of a bitmap moved inside the memory that it lies in.
pub mod SlideLaws
