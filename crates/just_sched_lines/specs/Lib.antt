-- The lines of histories.
pub mod Names
pub mod Lines
pub mod Fitting
