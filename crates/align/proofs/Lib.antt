-- Laws of the recursion, and of what it is given and leaves.
pub mod AlignLaws
pub mod WrittenLaws
