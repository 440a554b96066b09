-- Laws of the definitions in specs/.
pub mod FlatLaws
pub mod WalkLaws
