-- Laws of a level's bitmaps.
pub mod FrameSideLaws
pub mod ExcludedLaws
pub mod PlaneLaws
