pub mod Table
pub mod Means
pub mod FirstReads
