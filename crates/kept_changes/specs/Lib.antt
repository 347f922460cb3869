pub mod Changes
pub mod Room
pub mod Undo
pub mod inner
