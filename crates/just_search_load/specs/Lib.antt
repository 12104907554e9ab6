-- The definitions of how the files of a project are loaded, code blocks.
pub mod Shown
pub mod Gathers
pub mod Named
pub mod Numbers
pub mod Loads
pub mod Turns
pub mod Shows
pub mod Whole
pub mod Fences
pub mod Tangles
pub mod Running
