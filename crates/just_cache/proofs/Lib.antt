-- The lemmas of keys, a cache.
pub mod Plain
pub mod Fields
pub mod Orders
pub mod PathTexts
pub mod Objects
pub mod Digits
pub mod Cut
pub mod Laws
mod Steps
mod Puts
mod Told
