-- Definitions that the contracts cite.
pub mod Table
pub mod RowCounts
