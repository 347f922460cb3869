mod BesideLemmas
pub mod RelaidLaws
mod MoveLemmas
mod OpenLemmas
mod RunLemmas
mod EventLemmas
mod CountLemmas
mod LineLemmas
mod StoredLemmas
pub mod SaidLemmas
mod ScriptLemmas
