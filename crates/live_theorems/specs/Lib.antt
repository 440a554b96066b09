-- What is true of every list of live bracket calls (document 02, Paper 7).
pub mod Runs
pub mod Sessions
pub mod LiveLaw
pub mod UsedMemory
pub mod ReexposedSessions
pub mod CalledLists
pub mod LiveExamples
