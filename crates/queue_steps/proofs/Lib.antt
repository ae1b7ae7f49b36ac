pub mod Hangs
pub mod Merges
pub mod Pushes
pub mod Pops
pub mod Calls
pub mod Releases
