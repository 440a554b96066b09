-- Demand 3 of what the call writes.
pub mod DemandLaws
