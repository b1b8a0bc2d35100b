pub mod Judging
pub mod OperationLaws
pub mod Places
pub mod Steps
