-- Laws of rows moved sideways, for the slide and for the shift.
pub mod MovedPartLaws
