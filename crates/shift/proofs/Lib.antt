-- Laws of the shift.
pub mod ShiftLaws
