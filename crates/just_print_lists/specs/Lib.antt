-- The definitions of what a project has.
pub mod Listed
pub mod Order
pub mod Groups
pub mod Blanks
pub mod Greatest
pub mod Indentations
pub mod Summaries
pub mod NameLists
pub mod Evaluated
pub mod LongUsages
