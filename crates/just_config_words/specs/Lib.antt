-- What the contracts of the crate cite.
pub mod Table
pub mod Cuts
pub mod Paths
pub mod Forms
pub mod Kinds
pub mod Letters
pub mod Parsed
pub mod Occurrences
pub mod Faults
pub mod Front
pub mod Variables
pub mod Rules
pub mod Arguments
pub mod Words
pub mod Steps
