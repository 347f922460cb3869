pub mod Keys
pub mod States
pub mod inner
