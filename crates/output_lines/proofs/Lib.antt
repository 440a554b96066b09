-- Laws of the lines and of texts put one after another, for the functions' proofs.
pub mod TextLaws
pub mod WriteLaws
pub mod MagnitudeLaws
