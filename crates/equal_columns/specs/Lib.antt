pub mod Columns
pub mod Keyed
