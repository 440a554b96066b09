-- The live bracket (document 02, Paper 7): its memory, its four calls as steps, and what each call leaves.
pub mod Held
pub mod HeldOk
pub mod Steps
pub mod LiveCalls
