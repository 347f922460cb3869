pub mod Calls
pub mod AddColumnLaws
pub mod AddTrackedLaws
