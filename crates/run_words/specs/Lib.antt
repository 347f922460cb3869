pub mod Words
pub mod Calls
pub mod Laws
pub mod inner
