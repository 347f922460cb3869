pub mod Causes
pub mod FileTold
pub mod InMemory
pub mod Reading
