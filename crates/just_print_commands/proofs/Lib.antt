-- The lemmas of what commands print.
pub mod Finding
pub mod Leading
