pub mod Lookups
pub mod Pairs
