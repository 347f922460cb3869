pub mod Joinings
pub mod Assigned
pub mod JoinOn
pub mod inner
