pub mod Orders
pub mod Pieces
pub mod Bytes
pub mod Names
pub mod Shown
pub mod Laws
pub mod BytesLemmas
pub mod NamesLemmas
