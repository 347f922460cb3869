pub mod Words
pub mod Operators
pub mod Statements
pub mod Parsing
pub mod Texts
pub mod Laws
pub mod inner
