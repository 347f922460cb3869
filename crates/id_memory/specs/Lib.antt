pub mod Found
pub mod Laws
pub mod Pairs
pub mod States
pub mod inner
