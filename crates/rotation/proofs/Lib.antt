-- Laws of the tests and of the answer.
pub mod TurnLaws
