pub mod Calls
pub mod SplitLaws
pub mod TwinLaws
