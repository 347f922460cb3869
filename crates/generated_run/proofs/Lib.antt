mod RunLemmas
pub use Rattle.script_run.proofs.EndLaws
pub use Rattle.script_run.proofs.FrontLaws
pub use Rattle.script_run.proofs.CutLaws
pub use Rattle.script_run.proofs.OutputLaws
