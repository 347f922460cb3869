pub mod Walked
pub mod Plans
