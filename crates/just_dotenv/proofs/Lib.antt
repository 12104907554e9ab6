-- The proofs of the crate, from the parts of a value to whole texts.
pub mod Parts
pub mod Values
pub mod ValueLaws
pub mod LineLaws
pub mod FileLaws
pub mod LastValues
