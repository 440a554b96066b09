-- Laws of counting over runs of words.
pub mod OverlapLaws
