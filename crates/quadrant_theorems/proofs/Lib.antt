-- Proofs of what is true of every quadrants call.
pub mod CallLaws
pub mod TurnedLaws
pub mod ReexposedLaws
pub mod ExampleQuadrants
