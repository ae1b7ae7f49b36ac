pub mod Capacity
pub mod Labels
pub mod Ranges
pub mod Laws
pub mod Figures
