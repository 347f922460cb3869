pub mod Halves
pub mod Stays
pub mod Kept
pub mod Shown
pub mod Given
pub mod Getting
pub mod Sides
pub mod inner
