-- Proofs of the host of this process.
pub mod Ends
