-- The lemmas of the tests.
pub mod Chains
pub mod Paths
