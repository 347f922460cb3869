pub mod SplitsBy
pub mod BuiltSeeks
