pub mod Performing
pub mod Codes
