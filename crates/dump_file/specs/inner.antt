pub mod Calls
pub mod Filled
pub mod Loading
