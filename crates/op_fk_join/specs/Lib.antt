pub mod Join
pub mod Columns
pub mod inner
