-- The lemmas; just_sched uses them, no other crate does.
pub mod Accounts
pub mod Answering
pub mod Behind
pub mod CacheGains
pub mod Choices
pub mod Complete
pub mod Ended
pub mod Gained
pub mod Looking
pub mod OpenBodies
pub mod Runners
pub mod Settling
pub mod Summing
pub mod Tabled
pub mod Tallies
