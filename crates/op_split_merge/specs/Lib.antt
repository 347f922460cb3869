pub mod Twins
pub mod Sides
pub mod Auxiliary
pub mod Split
pub mod Shown
pub mod inner
