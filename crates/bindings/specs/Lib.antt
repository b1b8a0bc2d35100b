pub mod Fields
pub mod Variables
pub mod Templates
pub mod Binding
pub mod Making
