-- The same of the module `seq`.
pub mod Seq
