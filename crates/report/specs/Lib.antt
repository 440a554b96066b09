-- What the program `bracket` prints; and the printed case.
pub mod Output
pub mod PrintedCase
