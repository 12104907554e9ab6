-- How types may hold themselves through those of this crate.
pub mod seq
