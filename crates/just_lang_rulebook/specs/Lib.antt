-- The definitions of -- Rules on names that come again, on body lines and on patterns, -- Broken rules of a project.
pub mod DuplicateSpots
pub mod Front
pub mod Sigils
pub mod GuardSpots
pub mod Patterns
pub mod Faults
pub mod First
pub mod Meant
pub mod Rules
pub mod Behind
