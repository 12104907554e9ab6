-- The definitions of what surrounds a justfile, how dotenv files are loaded, and commands run for their pairs, what changes in an environment.
pub mod Answers
pub mod Captures
pub mod DotenvAnswers
pub mod Asked
pub mod Sequences
pub mod Files
pub mod Commands
pub mod Loads
pub mod Turns
pub mod Agree
pub mod Changes
pub mod Shows
