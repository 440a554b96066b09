-- Laws of the grey conversion, for the core's proofs.
pub mod ConversionLaws
