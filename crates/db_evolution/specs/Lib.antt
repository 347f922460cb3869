pub mod Sources
pub mod News
pub mod Calls
