pub mod Storage
pub mod Reading
pub mod Canonical
pub mod Flips
pub mod Changes
pub mod Laws
