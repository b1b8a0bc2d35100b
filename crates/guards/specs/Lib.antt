pub mod Holding
pub mod Searching
