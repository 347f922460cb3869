pub mod PartMade
pub mod Bounds
