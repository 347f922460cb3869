pub mod OrderLaws
pub mod SameLaws
pub mod SharedTexts
