pub mod ActLaws
mod GoalLemmas
mod EndLemmas
mod MoverLemmas
mod WriteLemmas
pub use Rattle.engine_core.proofs.ChainLaws
pub use Rattle.engine_core.proofs.TextLaws
pub use Rattle.engine_core.proofs.UndoLaws
pub use Rattle.engine_core.proofs.HoldLaws
pub use Rattle.engine_core.proofs.KeptTextLaws
