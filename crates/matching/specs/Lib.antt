pub mod Meaning
pub mod SearchLaws
