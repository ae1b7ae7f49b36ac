pub mod Relinks
pub mod Nodes
pub mod Listed
