-- Laws of a level's numbers and of its choice.
pub mod ChoiceLaws
