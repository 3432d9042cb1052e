pub mod Measures
pub mod Chains
