-- Laws of the blink row.
pub mod BlinkLaws
