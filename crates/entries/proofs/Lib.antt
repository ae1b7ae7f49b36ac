pub mod Parting
pub mod Writing
pub mod Renaming
pub mod Counting
pub mod Versions
pub mod Idle
