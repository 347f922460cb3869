pub mod Fields
pub mod Covered
pub mod Parts
pub mod Calls
pub mod Laws
pub mod inner
