-- What the contracts of the crate cite.
pub mod formers
pub mod Place
pub mod Cursor
pub mod Reader
pub mod Characters
pub mod Decimal
pub mod Lines
pub mod Indentation
pub mod Prefixes
pub mod Quotes
pub mod Given
pub mod Tokens
