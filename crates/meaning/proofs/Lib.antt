pub mod Graphs
pub mod Names
pub mod Reading
pub mod Writing
pub mod Versions
