-- Proofs of the tree of a host in memory, by subject.
pub mod Things
pub mod Lookups
pub mod Behind
pub mod Below
pub mod Endings
pub mod Harmless
pub mod Climbs
mod Making
pub mod Effects
