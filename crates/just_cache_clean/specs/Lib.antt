-- The definitions of how a cache is cleaned.
pub mod EntryTexts
pub mod PathTexts
pub mod Told
pub mod Sweeps
pub mod Cleans
pub mod Kept
