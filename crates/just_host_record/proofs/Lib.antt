-- Laws of the outside.
pub mod Laws
mod ThreeTexts
pub mod Writing
pub mod MadeFolders
pub mod Effects
pub mod Moments
pub mod Pairs
