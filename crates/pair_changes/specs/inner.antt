pub mod Calls
pub mod Left
