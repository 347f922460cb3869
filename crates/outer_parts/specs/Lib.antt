pub mod Closed
pub mod Backward
pub mod Whole
