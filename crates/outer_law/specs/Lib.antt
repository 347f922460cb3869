pub mod Entries
pub mod Placed
pub mod OuterOn
