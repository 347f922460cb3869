pub mod TextLaws
mod FullLemmas
mod WriteLemmas
pub use Rattle.engine_moves.proofs.TextLaws as EngineCoreTextLaws
pub use Rattle.engine_moves.proofs.ActLaws
pub use Rattle.engine_moves.proofs.HoldLaws
pub use Rattle.engine_moves.proofs.ChainLaws
pub use Rattle.engine_moves.proofs.KeptTextLaws
