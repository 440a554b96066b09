-- Laws of the numbers that stand first, and of the walk over the percentiles.
pub mod AlignRefusalLaws
