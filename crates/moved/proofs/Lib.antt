-- Laws of the moved frame.
pub mod SpanLaws
