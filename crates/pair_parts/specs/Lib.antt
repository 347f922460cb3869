pub mod Parts
pub mod Splits
pub mod Apart
pub mod Laws
