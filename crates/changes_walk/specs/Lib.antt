pub mod Changing
pub mod Reading
pub mod Reach
pub mod Whole
pub mod Calls
pub mod Bounds
pub mod Auxiliary
