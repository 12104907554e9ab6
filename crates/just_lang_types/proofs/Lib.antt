-- The lemmas of justfiles; what crates above may rest on is in Laws.
pub mod Choices
pub mod FilesNamed
pub mod Laws
pub mod Lists
pub mod Nesting
