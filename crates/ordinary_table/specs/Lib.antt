pub mod Shown
pub mod Selected
pub mod Pinned
pub mod Written
pub mod Fits
pub mod Laws
pub mod inner
