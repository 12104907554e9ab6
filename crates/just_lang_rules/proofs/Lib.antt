-- The lemmas of the rules.
pub mod Parts
pub mod Misplaced
pub mod Folds
pub mod Loops
