-- The proofs of the crate: how a text is cut, what its pieces become, and what that is over closures and paths.
pub mod Lists
pub mod Names
pub mod Braces
pub mod Splits
pub mod OneCut
pub mod NextPiece
pub mod Transfer
pub mod WithoutDollar
pub mod TildeLaws
pub mod OverPaths
