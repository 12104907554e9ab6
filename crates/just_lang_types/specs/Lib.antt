-- The definitions that the contracts of justfiles and their closures cite.
pub mod Attributes
pub mod Constants
pub mod ConstantTexts
pub mod Features
pub mod Keys
pub mod Modules
pub mod Names
pub mod Options
pub mod ParameterKinds
pub mod References
pub mod Switches
pub mod Trees
