-- Laws of slid bitmaps and of the numbers over them.
pub mod SlidPartLaws
pub mod SlidCountLaws
