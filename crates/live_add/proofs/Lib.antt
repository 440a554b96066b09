-- Laws of a live bracket with one frame more.
pub mod GrowLaws
