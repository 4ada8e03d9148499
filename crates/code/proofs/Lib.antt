-- Laws of chains.
pub mod Chains
pub mod Walks
