pub mod ChainLaws
pub mod Chains
