-- The definitions of the files of a project and of how they stand in its modules.
pub mod Files
pub mod Items
pub mod Paths
pub mod Targets
pub mod Numbers
pub mod Walk
pub mod Stack
pub mod Imports
pub mod Modules
pub mod Pending
pub mod Laid
