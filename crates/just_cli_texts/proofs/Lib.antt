-- The lemmas of what commands print.
pub mod Agreeing
pub mod ChoiceLaws
pub mod DefaultLaws
pub mod EvaluateLaws
pub mod FormatLaws
pub mod LayLaws
pub mod OneListing
pub mod OneTree
pub mod PrintLaws
pub mod Printers
pub mod ResponseLaws
pub mod TargetLaws
pub mod Wholly
