pub mod Legality
pub mod Ahead
pub mod Unfailing
pub mod Attempting
