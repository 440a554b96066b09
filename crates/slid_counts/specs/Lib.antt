-- What the two numbers against a slid frame require and give.
pub mod SlidPlaces
