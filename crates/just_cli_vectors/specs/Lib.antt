-- The definitions of a run of so many recipes over a host in memory, and of what is told of it.
pub mod Vectors
