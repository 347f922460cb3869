pub mod Laid
pub mod Shown
pub mod inner
