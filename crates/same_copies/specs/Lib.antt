pub mod Same
pub mod Visits
