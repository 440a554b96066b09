-- Laws of the text for two files.
pub mod FilesTextLaws
