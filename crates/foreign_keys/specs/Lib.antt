pub mod KeyParts
pub mod References
pub mod DrawnIds
pub mod Seeking
pub mod Least
pub mod Shared
pub mod Calls
pub mod inner
