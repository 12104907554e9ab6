-- The lemmas of the justfile of a layout.
pub mod ListLaws
pub mod Tables
pub mod Paths
pub mod Nested
pub mod Laws
pub mod Located
