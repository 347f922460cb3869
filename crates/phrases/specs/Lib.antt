pub mod Phrases
pub mod Reading
pub mod Reads
pub mod Fronts
pub mod Chains
pub mod Laws
pub mod Levels
