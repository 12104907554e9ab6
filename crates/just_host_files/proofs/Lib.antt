-- Proofs of what hosts have in common.
pub mod Places
pub mod Limits
pub mod Found
