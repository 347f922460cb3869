mod KindLemmas
pub mod BesideLaws
mod NothingLemmas
mod IdleLemmas
mod ToldLemmas
mod RelaidLemmas
pub mod UnseenLaws
mod ScriptLemmas
mod LineLemmas
pub use Rattle.script_laws.proofs.SaidLemmas
