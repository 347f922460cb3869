pub mod History
pub mod Views
pub mod Opens
pub mod Kinds
pub mod Refused
