-- The lemmas of the text of histories.
pub mod Reading
pub mod Numbers
pub mod Words
pub mod Sums
pub mod Back
pub mod Laws
