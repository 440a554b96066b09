-- Laws of blanks and of the whitespace that they make, and of its grammar.
pub mod BlankLaws
pub mod WhitespaceLaws
