-- The definitions of what commands print of a project.
pub mod Places
pub mod Projects
pub mod Texts
pub mod Refusals
