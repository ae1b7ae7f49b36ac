pub mod Members
pub mod Positions
pub mod Laws
