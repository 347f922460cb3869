pub mod Decompose
pub mod Columns
pub mod Calls
pub mod inner
