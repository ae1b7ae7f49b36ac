pub mod Parts
pub mod Writing
pub mod Blanks
pub mod Idle
pub mod Nodes
pub mod Changes
pub mod Turns
pub mod Wholes
