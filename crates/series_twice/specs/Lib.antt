-- What demand 3 says of a series call.
pub mod Kinds
pub mod Demand
