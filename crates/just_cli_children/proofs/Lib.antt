-- The lemmas of the children that commands run.
pub mod BodyLaws
pub mod ChildLaws
pub mod ChooserLaws
pub mod DryLaws
pub mod WordLaws
