-- The definitions of -- The specifications of printed texts, the contracts of usages cite.
pub mod Printed
pub mod Shapes
pub mod Law
pub mod Entries
pub mod SmallTexts
pub mod Usages
pub mod Shown
