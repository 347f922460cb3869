pub mod Changes
pub mod Laws
pub mod LookUps
pub mod Rows
pub mod States
pub mod Undo
pub mod inner
