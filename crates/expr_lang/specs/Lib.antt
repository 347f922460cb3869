pub mod Terms
pub mod Operations
pub mod Val
pub mod Resolved
pub mod Laws
