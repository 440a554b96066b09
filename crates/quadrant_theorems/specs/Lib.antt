-- What is true of every quadrants call (document 02, Paper 4).
pub mod CroppedPairs
pub mod ExactTurns
pub mod OwnPixels
pub mod ReexposedQuadrants
pub mod QuadrantExamples
