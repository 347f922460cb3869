pub mod Places
pub mod Seeking
pub mod inner
pub use Rattle.fk_closing.specs.Found
pub use Rattle.fk_closing.specs.Keys
pub use Rattle.fk_parts.specs.Closed
pub use Rattle.fk_parts.specs.Laws as FkPartsLaws
