pub mod Files
pub mod Prints
pub mod Same
pub mod Verdicts
pub mod Shown
