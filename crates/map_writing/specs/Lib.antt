pub mod Writing
pub mod Growth
