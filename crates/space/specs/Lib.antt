pub mod Space
pub mod Runs
pub mod Figure
