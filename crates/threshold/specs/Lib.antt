-- The threshold over a list of grey values and over the 256 counts, the forms that the cores work with.
pub mod Flat
