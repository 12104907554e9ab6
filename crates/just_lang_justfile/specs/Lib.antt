-- The definitions of the justfile that a layout makes.
pub mod Links
pub mod Standing
pub mod Comments
pub mod Recipes
pub mod Aliases
pub mod Declarations
pub mod Modules
pub mod Trees
