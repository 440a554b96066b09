-- What a level gives.
pub mod Choices
