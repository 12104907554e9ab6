-- The definitions of -- Places and names, graphs: their paths and cycles, and what a search and a peeling of them keep, -- Which files import which.
pub mod Spots
pub mod Repeated
pub mod Places
pub mod Items
pub mod Standing
pub mod Entries
pub mod Winners
pub mod Graph
pub mod Met
pub mod Origins
pub mod Levels
pub mod Walk
pub mod Chains
pub mod Importers
