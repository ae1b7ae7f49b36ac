pub mod Slices
pub mod Copies
pub mod Splits
pub mod Changes
pub mod Openings
pub mod Births
pub mod Partners
pub mod Threads
