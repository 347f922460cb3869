mod Places
pub mod ReferencesLaws
pub mod ResolvingLaws
