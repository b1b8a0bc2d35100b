pub mod Executed
pub mod Answers
pub mod Attempts
