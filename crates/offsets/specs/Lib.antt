-- Where the offsets of pairs stand in a list.
pub mod PairOffsets
