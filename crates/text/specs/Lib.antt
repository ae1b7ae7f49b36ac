pub mod Numbers
pub mod Parts
pub mod Left
pub mod Keyed
pub mod Lines
pub mod Laws
