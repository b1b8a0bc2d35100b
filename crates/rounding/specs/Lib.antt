pub mod Parts
pub mod Closest
pub mod PartLaws
pub mod Rounding
pub mod Signed
pub mod Nearest
pub mod Binary32
