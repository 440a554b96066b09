-- Laws of two counts in one number.
pub mod TallyLaws
