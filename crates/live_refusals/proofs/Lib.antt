-- Laws of the live bracket's refusal numbers.
pub mod LiveRefusalLaws
