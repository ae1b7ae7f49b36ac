pub mod Memory
pub mod Steps
pub mod Promises
pub mod Calls
pub mod Laws
pub mod Effects
