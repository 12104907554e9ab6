-- What the contracts of the crate cite.
pub mod Cuts
pub mod Positional
pub mod Verbosities
pub mod Versions
pub mod ModulePaths
pub mod Requests
pub mod Listed
pub mod Commands
pub mod Config
pub mod Texts
