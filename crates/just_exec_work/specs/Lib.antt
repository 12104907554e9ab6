-- The definitions of the contracts of scripts cite, the contracts of commands cite.
pub mod Cuts
pub mod Kinds
pub mod Shebangs
pub mod Scripts
pub mod Lines
pub mod Attributes
pub mod Shells
pub mod Positional
pub mod Folders
pub mod Echoes
pub mod Works
pub mod Steps
