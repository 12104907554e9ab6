-- How types of the crate may hold values of other types.
pub mod boxed
