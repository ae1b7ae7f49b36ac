pub mod Taking
pub mod Dropping
