pub mod Woken
pub mod Turns
pub mod Settling
