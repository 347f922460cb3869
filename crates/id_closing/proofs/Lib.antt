pub mod FoundLaws
pub mod ToldLaws
