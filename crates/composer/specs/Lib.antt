pub mod Composed
pub mod Grown
