pub mod Ranks
pub mod Merges
