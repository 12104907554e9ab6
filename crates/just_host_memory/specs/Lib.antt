-- Definitions of the tree of a host in memory.
pub mod Files
pub mod Trees
pub mod Removals
pub mod Playing
