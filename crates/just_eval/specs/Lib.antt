-- The definitions of the contracts of variables cite, the contracts of lines cite.
pub mod Uses
pub mod Overrides
pub mod Outcomes
pub mod Evaluations
pub mod Numbers
pub mod Partial
pub mod Bodies
pub mod Parts
