pub mod Tails
pub mod Lengths
pub mod Script
pub mod Places
pub mod Moved
pub mod Calls
