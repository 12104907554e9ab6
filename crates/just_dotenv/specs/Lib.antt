-- What the contracts of the crate cite.
pub mod Characters
pub mod Grammar
pub mod Meaning
pub mod File
pub mod Readers
pub mod Texts
pub mod LastValues
