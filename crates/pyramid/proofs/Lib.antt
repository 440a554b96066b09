-- Laws of a frame halved into the memory that it lies in.
pub mod WithinLaws
