-- Definitions of the outside.
pub mod Record
pub mod World
pub mod Disk
pub mod Sights
pub mod Logs
pub mod Signals
pub mod Changes
pub mod Looks
pub mod Folders
pub mod NewFolders
pub mod Effects
pub mod Scripts
