pub mod Owning
pub mod Holding
pub mod Setting
pub mod Redirecting
pub mod Bridging
