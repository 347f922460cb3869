pub mod Entries
pub mod OrderLemmas
pub mod Passes
