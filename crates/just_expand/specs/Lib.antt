-- What the contracts of the crate cite.
pub mod Bytes
pub mod Pieces
pub mod Expansion
pub mod Tilde
pub mod Contexts
pub mod Code
pub mod Paths
pub mod Errors
