pub mod LiteralLaws
mod NameText
pub mod TestLaws
