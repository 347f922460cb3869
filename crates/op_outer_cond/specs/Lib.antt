pub mod Outerings
pub mod inner
