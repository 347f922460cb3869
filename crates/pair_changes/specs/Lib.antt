pub mod MemoryChanges
pub mod Changed
pub mod Undo
pub mod Laws
pub mod inner
