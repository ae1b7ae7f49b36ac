pub mod Table
pub mod Capacities
pub mod Spreading
pub mod Widening
pub mod Rise
pub mod Figures
