-- Laws of the four quadrants.
pub mod FourLaws
