-- Laws of the writer, and of what it wrote read again.
pub mod P6WriteLaws
pub mod RoundTripLaw
