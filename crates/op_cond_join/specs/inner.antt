pub mod Admitted
pub mod Calls
pub mod Assignings
pub mod AssignedLaws
pub mod FoundLaws
pub mod JoinOnLaws
