-- The definitions of this crate.
pub mod Agree
pub mod Features
pub mod Own
pub mod Pairs
pub mod Planned
pub mod Projects
pub mod Request
pub mod Steps
pub mod Caused
pub mod Outcome
pub mod EndingProjects
pub mod OneProject
pub mod Loading
pub mod Evaluating
pub mod Closing
