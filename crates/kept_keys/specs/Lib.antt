pub mod Kept
pub mod Changed
pub mod Laws
