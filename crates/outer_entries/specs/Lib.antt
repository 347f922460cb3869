pub mod Showings
pub mod Placings
pub mod inner
