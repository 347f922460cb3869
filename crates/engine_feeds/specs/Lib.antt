pub mod Notes
pub mod Standing
pub mod Act
pub mod Kept
pub mod Calls
pub mod Plain
pub mod Laws
pub mod Replies
pub use Rattle.change_feed.specs.Watchers
pub use Rattle.change_feed.specs.Watches
pub use Rattle.change_feed.specs.Feeds
pub use Rattle.engine_transactions.specs.Standing as TransactionsStanding
pub use Rattle.engine_transactions.specs.Begun
pub use Rattle.engine_transactions.specs.Kept as TransactionsKept
pub use Rattle.engine_transactions.specs.Calls as TransactionsCalls
pub use Rattle.engine_transactions.specs.Act as TransactionsAct
pub use Rattle.engine_transactions.specs.declared.kept.Kept as Transactions
pub use Rattle.engine_transactions.specs.EngineSessionsStanding as SessionsStanding
pub use Rattle.engine_transactions.specs.Answer
pub use Rattle.engine_transactions.specs.EngineSessionsTexts as Texts
pub use Rattle.engine_transactions.specs.Spoken
pub use Rattle.engine_transactions.specs.EngineCoreKept
pub use Rattle.engine_transactions.specs.EngineCoreTexts
pub use Rattle.engine_transactions.specs.Laid
pub use Rattle.engine_transactions.specs.EngineSessionsAct
pub use Rattle.engine_transactions.specs.AnyDatabase
pub use Rattle.engine_transactions.specs.EngineCoreUndo
pub use Rattle.engine_transactions.specs.Reply
pub use Rattle.engine_transactions.specs.Meaning
pub use Rattle.engine_transactions.specs.EngineMovesAct
pub use Rattle.engine_transactions.specs.Moving
pub use Rattle.engine_transactions.specs.InFull
pub use Rattle.engine_transactions.specs.Pending
pub use Rattle.engine_transactions.specs.EngineCoreAct
pub use Rattle.engine_transactions.specs.SharedChecks
pub use Rattle.engine_transactions.specs.MigrationSides
pub use Rattle.engine_transactions.specs.Accesses
pub use Rattle.engine_transactions.specs.EngineCoreLaws
pub use Rattle.engine_transactions.specs.Answer.TheVariants
pub use Rattle.engine_transactions.specs.Replies as EngineTransactionsReplies
pub use Rattle.version_notes.specs.Notes as VersionNotes
pub use Rattle.engine_transactions.specs.Told
pub use Rattle.version_notes.specs.Differences
pub use Rattle.version_notes.specs.Versions
pub use Rattle.engine_transactions.specs.Leads
pub use Rattle.engine_transactions.specs.KeptTexts
pub use Rattle.engine_transactions.specs.EngineStatementsCalls
pub use Rattle.engine_transactions.specs.Found
