pub mod Chains
pub mod Spots
pub mod Skips
pub mod Sound
