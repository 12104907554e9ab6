-- Lemmas.
pub mod Cuts
pub mod Joins
pub mod LastNames
pub mod Pieces
pub mod Fields
pub mod Responses
pub mod WholeNames
pub mod ConfigSteps
