-- The lemmas of the rules on body lines and on patterns, broken rules.
pub mod EntrySteps
pub mod LineSteps
pub mod Blanks
pub mod ReadPatterns
pub mod BigPatterns
pub mod FileSteps
pub mod MeantLaws
pub mod Orders
pub mod Behinds
pub mod ByErrors
