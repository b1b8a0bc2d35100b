pub mod Unmet
pub mod UnmetLaws
