pub mod Fields
pub mod Tables
pub mod Laws
pub mod inner
