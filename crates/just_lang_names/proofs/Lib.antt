-- The lemmas of names.
pub mod Steps
pub mod TableLaws
pub mod PathLaws
pub mod ChildLaws
pub mod Inserts
pub mod ScopeLaws
pub mod LookupLaws
pub mod Walks
pub mod TargetLaws
pub mod ArityLaws
pub mod Sets
pub mod Entered
