pub mod Fields
pub mod Operations
pub mod Puts
