-- The definitions of the shapes.
pub mod Attributes
pub mod Expansions
pub mod Parameters
pub mod Settings
pub mod Comments
pub mod Scopes
pub mod Recipes
