-- The definitions of the contracts of closures cite, the contracts of values cite, the contracts of evaluation cite.
pub mod Places
pub mod Visits
pub mod WellFormed
pub mod Hashes
pub mod Numbers
pub mod Ran
pub mod Pending
pub mod Closures
pub mod Values
pub mod Asked
pub mod Scopes
pub mod Answers
pub mod Dependencies
pub mod Entries
pub mod Requests
pub mod Ends
pub mod AskedClosures
