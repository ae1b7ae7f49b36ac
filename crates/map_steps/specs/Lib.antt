pub mod Insert
pub mod Remove
pub mod Find
pub mod Theorems
