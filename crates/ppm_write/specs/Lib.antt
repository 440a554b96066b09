-- P6 files: how they are written, and read again.
pub mod P6Writes
pub mod RoundTrip
