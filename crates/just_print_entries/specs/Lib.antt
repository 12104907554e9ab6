-- The definitions of listings.
pub mod Styles
pub mod Entries
pub mod Recipes
pub mod Listings
pub mod Written
