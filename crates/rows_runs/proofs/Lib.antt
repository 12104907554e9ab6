-- The lemmas of what is timed.
pub mod Ends
