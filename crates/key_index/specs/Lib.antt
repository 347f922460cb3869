pub mod Changes
pub mod Found
pub mod Keys
pub mod States
pub mod Tables
pub mod inner
