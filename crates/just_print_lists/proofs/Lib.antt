-- The lemmas of what a project has.
pub mod OneOrder
pub mod Sorting
pub mod Keeping
pub mod Weights
pub mod InTurn
pub mod BlankLaws
