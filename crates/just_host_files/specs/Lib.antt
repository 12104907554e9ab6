-- Definitions of what hosts have in common: texts, items and the paths of fresh folders.
pub mod Texts
pub mod Items
pub mod Fresh
