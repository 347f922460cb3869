pub mod Summed
pub mod Calls
pub use Rattle.script_run.specs.Kept
pub use Rattle.script_run.specs.Statuses
pub use Rattle.script_run.specs.declared.end.End
pub use Rattle.script_run.specs.Calls as ScriptRunCalls
pub use Rattle.script_run.specs.WatchedStanding
pub use Rattle.script_run.specs.WatchedAct
pub use Rattle.script_run.specs.WatchedOutput
pub use Rattle.script_run.specs.WatchedCalls
pub use Rattle.script_run.specs.WatchedKept
pub use Rattle.script_run.specs.Replies as Output
pub use Rattle.script_run.specs.TransactionsStanding as Standing
pub use Rattle.script_run.specs.Begun
pub use Rattle.script_run.specs.TransactionsKept
pub use Rattle.script_run.specs.TransactionsCalls
pub use Rattle.script_run.specs.Transactions
pub use Rattle.script_run.specs.SessionsStanding
pub use Rattle.script_run.specs.TransactionsAct as Act
pub use Rattle.script_run.specs.EngineSessionsTexts as Texts
pub use Rattle.script_run.specs.Answer
pub use Rattle.script_run.specs.EngineCoreKept
pub use Rattle.script_run.specs.EngineCoreTexts
pub use Rattle.script_run.specs.Laid
