pub mod Agreeing
pub mod Standing
pub mod Visiting
