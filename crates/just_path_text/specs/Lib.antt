-- The definitions that the contracts here cite.
pub mod formers
pub mod Environ
pub mod Texts
