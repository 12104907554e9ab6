-- The definitions of what commands print.
pub mod Agree
pub mod Choices
pub mod Kinds
pub mod Defaults
pub mod Evaluated
pub mod Formatted
pub mod Laid
pub mod ListOptions
pub mod Prints
pub mod Responses
pub mod Targets
pub mod Wholes
