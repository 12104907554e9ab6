-- The lemmas of what listings show of a project.
pub mod GroupLaws
pub mod LastNames
pub mod ToldLaws
pub mod Branching
pub mod Growing
