pub mod Entries
pub mod Laws
pub mod LookUps
pub mod Orders
pub mod States
pub mod inner
