-- Proofs of what is true of every list of live bracket calls.
pub mod UsedLaws
pub mod NumberLaws
pub mod MadeLaws
pub mod AfterLaws
pub mod ReplyLaws
pub mod SessionLaws
pub mod SeriesOfLaws
pub mod RunLaws
pub mod LawProof
pub mod UnreadLaws
pub mod ReexposedLaws
pub mod CalledLaws
pub mod ExampleSessions
