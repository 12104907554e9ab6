-- The definitions of what listings show of a project.
pub mod Told
pub mod Names
pub mod Groups
pub mod Branches
pub mod Kept
