-- The lemmas of how a cache is cleaned.
pub mod Cuts
pub mod PathWalks
pub mod Begins
pub mod Saved
pub mod Staying
pub mod Steps
pub mod Sweeping
pub mod Cleaning
