-- The definitions of this crate.
pub mod Cycles
pub mod CycleTables
pub mod Disabling
pub mod DisablingTables
pub mod SpotOrder
pub mod Order
pub mod Rules
pub mod Errors
pub mod Projects
pub mod Befores
pub mod Linked
pub mod Tables
pub mod Assembled
pub mod Sound
pub mod SoundLinks
pub mod SoundRules
pub mod SoundProjects
