-- The text for two files; then what is said of a pair of their rasters.
pub mod FilesText
pub mod PairTexts
