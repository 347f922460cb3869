pub mod Found
pub mod Closing
pub mod Told
