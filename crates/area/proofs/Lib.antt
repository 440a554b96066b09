-- Laws of the common area.
pub mod SideLaws
