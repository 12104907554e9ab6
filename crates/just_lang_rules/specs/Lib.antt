-- The definitions of the rules.
pub mod Tables
pub mod ConstantTexts
pub mod Literals
pub mod Expansions
pub mod FaultSpots
pub mod SettingSpots
pub mod AttributeSpots
pub mod ParameterSpots
pub mod DefaultSpots
