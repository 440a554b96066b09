-- Laws of P6 files' headers, field by field, and of the grammar.
pub mod ExampleLaws
pub mod FieldLaws
pub mod HeaderLaws
pub mod PieceLaws
pub mod GrammarLaws
