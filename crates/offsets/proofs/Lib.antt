-- Laws of the lists of offsets.
pub mod PairOffsetLaws
