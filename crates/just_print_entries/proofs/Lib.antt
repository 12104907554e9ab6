-- The lemmas of listings.
pub mod Widths
pub mod Turned
pub mod Pushed
pub mod PieceWeights
pub mod Writing
pub mod Gathered
