pub mod Shown
pub mod Table
pub mod StateBytes
pub mod Answers
pub mod Meetings
