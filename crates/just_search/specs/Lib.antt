-- The definitions of this crate.
pub mod First
pub mod Listing
pub mod Climb
pub mod Root
pub mod Global
pub mod Record
pub mod Finding
pub mod Fallback
pub mod Programs
pub mod Inits
pub mod Calls
pub mod Texts
pub mod Files
pub mod Removals
pub mod Places
pub mod Searches
