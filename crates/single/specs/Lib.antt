pub mod Rows
pub mod Single
pub mod Making
