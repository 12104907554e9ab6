-- The proofs of the crate. Those of other crates cite Laws, and Prefixes.
pub mod Steps
pub mod Outcomes
pub mod Many
pub mod Texts
pub mod Lines
pub mod Digits
pub mod Prefixes
pub mod PieceLaws
pub mod PieceLoop
pub mod SharedBlanks
pub mod Laws
