pub mod Statuses
pub mod Calls
pub mod Kept
pub mod Streams
pub mod Reading
pub use Rattle.engine_feeds.specs.Standing as WatchedStanding
pub use Rattle.engine_feeds.specs.Act as WatchedAct
pub use Rattle.engine_feeds.specs.Replies as WatchedOutput
pub use Rattle.engine_feeds.specs.Calls as WatchedCalls
pub use Rattle.engine_feeds.specs.Kept as WatchedKept
pub use Rattle.engine_feeds.specs.Answer
pub use Rattle.engine_feeds.specs.EngineCoreTexts
pub use Rattle.engine_feeds.specs.Spoken
pub use Rattle.engine_feeds.specs.EngineStatementsCalls
pub use Rattle.engine_feeds.specs.TransactionsKept
pub use Rattle.engine_feeds.specs.TransactionsCalls
pub use Rattle.engine_feeds.specs.TransactionsAct
pub use Rattle.engine_feeds.specs.EngineTransactionsReplies as Replies
pub use Rattle.engine_feeds.specs.TransactionsStanding
pub use Rattle.engine_feeds.specs.AnyDatabase
pub use Rattle.engine_feeds.specs.Begun
pub use Rattle.engine_feeds.specs.Transactions
pub use Rattle.engine_feeds.specs.SessionsStanding
pub use Rattle.engine_feeds.specs.Texts as EngineSessionsTexts
pub use Rattle.engine_feeds.specs.EngineCoreKept
pub use Rattle.engine_feeds.specs.Laid
pub use Rattle.engine_feeds.specs.Found
