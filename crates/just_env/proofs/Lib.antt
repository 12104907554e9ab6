-- The lemmas: how dotenv files are loaded, and commands run for their pairs; what changes in an environment.
pub mod Laws
pub mod Record
pub mod Running
pub mod OneFile
pub mod Gathered
pub mod Climbs
pub mod Commanding
pub mod Owned
pub mod Turning
pub mod Stopped
pub mod Agreed
pub mod Alone
pub mod DryLoads
mod Ends
mod Bound
mod Lookups
mod Put
