-- The lemmas of the rows.
pub mod ModuleCounts
