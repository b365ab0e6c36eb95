pub mod Over
pub mod Chains
