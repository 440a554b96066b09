-- What is left once a part of the held numbers is written.
pub mod HeldWrites
