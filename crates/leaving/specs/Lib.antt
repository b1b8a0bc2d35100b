pub mod Leaving
pub mod LeavingLaws
