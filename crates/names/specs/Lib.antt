pub mod Asks
pub mod Named
