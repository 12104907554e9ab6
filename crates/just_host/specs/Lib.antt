-- Definitions of the hosts.
pub mod Mem
pub mod Real
