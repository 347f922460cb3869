pub mod Operators
pub mod Codes
pub mod Views
