-- The lemmas of scripts, commands.
pub mod CutTexts
pub mod LastPieces
pub mod Placing
pub mod Numbering
pub mod Lists
pub mod Given
