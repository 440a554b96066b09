-- Laws of the conversions and of the answer as the call gives it.
pub mod PairCallLaws
