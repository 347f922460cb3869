pub mod NameChecks
