pub mod TextLaws
mod PlanLemmas
mod WriteLemmas
pub mod LaidLaws
pub mod UndoLaws
mod LineLemmas
mod MoveLemmas
mod BoundLemmas
mod LeftLemmas
pub use Rattle.engine_versions.proofs.ChainLaws
pub use Rattle.engine_versions.proofs.KeptTextLaws
pub use Rattle.write_plans.proofs.HoldLaws
