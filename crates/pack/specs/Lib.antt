-- What the packing functions keep, in terms of document 01's definitions.
pub mod Outside
