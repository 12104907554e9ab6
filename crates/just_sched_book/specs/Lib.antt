-- What a book is of, what it keeps, and what its calls leave.
pub mod Account
pub mod Codes
pub mod Gains
pub mod MoveAnswers
pub mod Nowhere
pub mod Tabled
