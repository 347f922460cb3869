pub mod Versions
pub mod Differences
pub mod Notes
pub mod Runs
pub mod Mirrors
pub mod First
pub mod Numbers
