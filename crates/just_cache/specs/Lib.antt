-- The definitions of the contracts of keys cite, a cache.
pub mod Members
pub mod Keys
pub mod Readable
pub mod Digests
pub mod Places
pub mod Shows
pub mod Errors
pub mod Sums
pub mod Maps
pub mod Looks
