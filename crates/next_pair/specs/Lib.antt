-- What the pairs of a series leave in the lent buffers.
pub mod PairRuns
