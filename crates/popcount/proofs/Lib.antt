-- Laws of the 1 bits of packed words.
pub mod EntryLaws
pub mod TableLaws
pub mod RowLaws
pub mod AdderLaws
