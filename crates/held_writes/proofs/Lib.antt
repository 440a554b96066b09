-- Laws of what is left once held numbers are written.
pub mod WriteLaws
