pub mod Masks
pub mod Chains
