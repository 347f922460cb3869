pub mod IdNumbers
pub mod IdPairs
