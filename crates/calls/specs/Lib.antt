pub mod Calls
pub mod TwoReplicas
