pub mod Opened
pub mod Asked
pub mod Stepping
