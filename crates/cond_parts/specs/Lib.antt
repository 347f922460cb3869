pub mod Closed
pub mod Forward
pub mod Backward
pub mod Apart
pub mod Whole
pub mod Laws
