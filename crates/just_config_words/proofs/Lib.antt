-- Lemmas.
pub mod Cuts
pub mod Fronts
pub mod Meanings
pub mod Letters
pub mod Added
pub mod Runs
pub mod Filled
pub mod Questions
pub mod Laws
