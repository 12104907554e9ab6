-- The lemmas of plans, errors.
pub mod Caching
pub mod RunPlans
pub mod Paired
pub mod Written
