pub mod Validation
pub mod TupleLaws
pub mod StateLaws
