-- Laws of the offsets that a live bracket tells.
pub mod ToldLaws
