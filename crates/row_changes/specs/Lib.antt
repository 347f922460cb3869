pub mod Changed
pub mod Differences
pub mod Touched
pub mod Picked
pub mod Laws
