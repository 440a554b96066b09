-- Laws of bytes joined, flags gathered and columns turned.
pub mod GatherJoinLaws
pub mod TurnLaws
pub mod GatherLaws
