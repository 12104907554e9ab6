-- Proofs of the hosts, by subject.
pub mod Positions
pub mod Worlds
pub mod Checks
