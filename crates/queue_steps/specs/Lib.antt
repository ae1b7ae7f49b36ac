pub mod Merge
pub mod Queues
pub mod Theorems
