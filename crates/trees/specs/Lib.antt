pub mod Trees
pub mod Lists
pub mod RedBlack
pub mod Removal
pub mod Leftist
pub mod Theorems
