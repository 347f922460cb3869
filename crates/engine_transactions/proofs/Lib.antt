mod RowLemmas
mod ExecutingLemmas
mod SettleLemmas
mod KindLemmas
mod MeansLemmas
mod CommitLemmas
mod WroteLemmas
mod RunLemmas
mod LeadLemmas
mod HoldLemmas
mod AtOnceLemmas
mod KeptLemmas
pub use Rattle.engine_sessions.proofs.TextLaws
mod AccessLemmas
mod LeftLemmas
pub use Rattle.engine_sessions.proofs.ChainLaws
pub use Rattle.engine_sessions.proofs.KeptTextLaws
pub use Rattle.engine_sessions.proofs.ActLaws
