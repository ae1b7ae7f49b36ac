pub mod Linking
pub mod Relinking
pub mod Meaning
pub mod Places
pub mod Listing
