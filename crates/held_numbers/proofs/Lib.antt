-- Laws of the numbers of a live bracket's memory.
pub mod NumberLaws
pub mod BadLaws
