pub mod Holding
pub mod Giving
pub mod Calls
