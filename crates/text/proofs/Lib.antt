pub mod Reading
pub mod Cuts
pub mod Inverse
pub mod Joining
pub mod Telling
pub mod Sofar
