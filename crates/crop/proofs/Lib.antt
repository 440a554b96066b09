-- Laws of crops.
pub mod CropLaws
