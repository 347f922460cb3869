pub mod Texts
pub mod Placing
pub mod Naming
