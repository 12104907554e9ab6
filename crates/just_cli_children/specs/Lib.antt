-- The definitions of the children that commands run, and of what a dry run tells.
pub mod Faults
pub mod Words
pub mod Choosers
pub mod Children
pub mod Configs
pub mod DryRuns
