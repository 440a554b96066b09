-- The settings line of the program `bracket`; then what its parser says of a part of it.
pub mod SettingsLine
pub mod SpacedNumbers
