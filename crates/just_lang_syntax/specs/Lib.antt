-- The specifications of the language.
pub mod Places
pub mod Strings
pub mod Exprs
pub mod Forms
pub mod Attributes
pub mod Recipes
pub mod Bodies
pub mod Items
pub mod File
pub mod Room
pub mod Readers
pub mod Meanings
pub mod Collected
pub mod ItemReaders
pub mod EntryReaders
pub mod Deep
pub mod Faults
