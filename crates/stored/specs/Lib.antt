pub mod Stored
pub mod Writes
pub mod Becomes
pub mod Whole
pub mod Theorems
