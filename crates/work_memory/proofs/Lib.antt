-- Laws of sizes.
pub mod MemoryLaws
