pub mod Lefts
pub mod Longer
