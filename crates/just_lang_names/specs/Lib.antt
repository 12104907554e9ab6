-- The definitions of names in scopes, and of what paths of names come to.
pub mod Standing
pub mod Lookup
pub mod NamesUsed
pub mod ScopeSpots
pub mod TargetSpots
pub mod Names
pub mod Children
pub mod Scopes
pub mod Targets
pub mod Arities
pub mod Hashes
pub mod HashedPlaces
