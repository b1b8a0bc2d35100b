pub mod Rounded
pub mod Place
pub mod Bounds
pub mod Sums
