-- Laws of the answers of a refused file, and of the readers by the grammar.
pub mod ReadAnswerLaws
pub mod ReadsLaws
