-- Laws of a live bracket without its oldest frame.
pub mod ShrinkLaws
