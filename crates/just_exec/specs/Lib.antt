-- The definitions of the contracts of plans cite, the errors of a run.
pub mod Prompts
pub mod Banners
pub mod Caches
pub mod Plans
pub mod Refusals
pub mod Parts
pub mod Texts
pub mod Codes
pub mod Executors
