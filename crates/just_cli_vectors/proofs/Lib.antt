-- The lemmas.
mod Events
mod Ranges
mod Reported
