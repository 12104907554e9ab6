-- The definitions of the contracts of the words of a recipe cite, the contracts of invocations cite.
pub mod Parameters
pub mod Sorts
pub mod Switches
pub mod Moves
pub mod Patterns
pub mod Built
pub mod Tests
pub mod Given
pub mod Paths
pub mod Names
pub mod Targets
pub mod Commands
pub mod Invocations
pub mod Sights
