-- The header of P6 files: the grammar, what is found in a file, that both are the same, and examples.
pub mod P6Grammar
pub mod P6Header
pub mod ByGrammar
pub mod HeaderExamples
