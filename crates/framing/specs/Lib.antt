pub mod Marks
pub mod MarkLaws
pub mod Back
pub mod FrameLaws
