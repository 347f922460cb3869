pub mod Files
pub mod Starts
pub mod Statuses
pub mod Decided
pub mod Laws
pub mod ScriptLaws
pub mod Calls
