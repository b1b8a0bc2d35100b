pub mod Moves
pub mod SelectedLaws
pub mod MoveLaws
pub mod CopyLaws
