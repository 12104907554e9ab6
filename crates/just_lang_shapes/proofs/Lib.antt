-- The lemmas of the shapes.
pub mod ListLaws
pub mod Kept
pub mod Blanks
pub mod Above
pub mod KeyTables
pub mod Fields
pub mod Parameters
pub mod ExpandedExprs
