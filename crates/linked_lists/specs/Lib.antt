pub mod Decisions
pub mod Chain
pub mod Ranges
pub mod Passing
