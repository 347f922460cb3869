pub mod Changed
pub mod Standing
pub mod Meaning
pub mod Executing
pub mod Act
pub mod Leads
pub mod Begun
pub mod Serial
pub mod Replies
pub mod ByKind
pub mod Calls
pub mod Kept
pub mod Runs
pub mod Held
pub use Rattle.engine_sessions.specs.Spoken
pub use Rattle.engine_sessions.specs.EngineCoreTexts
pub use Rattle.engine_sessions.specs.KeptTexts
pub use Rattle.engine_sessions.specs.Texts as EngineSessionsTexts
pub use Rattle.engine_sessions.specs.declared.answer.Answer
pub use Rattle.engine_sessions.specs.Standing as EngineSessionsStanding
pub use Rattle.engine_sessions.specs.Laid
pub use Rattle.engine_sessions.specs.Act as EngineSessionsAct
pub use Rattle.engine_sessions.specs.AnyDatabase
pub use Rattle.engine_sessions.specs.EngineCoreUndo
pub use Rattle.engine_sessions.specs.Reply
pub use Rattle.engine_sessions.specs.EngineMovesAct
pub use Rattle.engine_sessions.specs.Moving
pub use Rattle.engine_sessions.specs.InFull
pub use Rattle.engine_sessions.specs.Pending
pub use Rattle.engine_sessions.specs.EngineCoreAct
pub use Rattle.engine_sessions.specs.SharedChecks
pub use Rattle.engine_sessions.specs.MigrationSides
pub use Rattle.engine_sessions.specs.Accesses
pub use Rattle.engine_sessions.specs.EngineCoreLaws
pub use Rattle.engine_sessions.specs.Calls as EngineSessionsCalls
pub use Rattle.engine_sessions.specs.Found
pub use Rattle.engine_sessions.specs.Statements
pub use Rattle.engine_sessions.specs.Evolve
pub use Rattle.engine_sessions.specs.Shown
pub use Rattle.engine_sessions.specs.EngineCoreKept
pub use Rattle.engine_sessions.specs.WriteUndo
pub use Rattle.engine_sessions.specs.Told
pub use Rattle.engine_sessions.specs.EngineStatementsCalls
pub use Rattle.engine_sessions.specs.declared.sessions.Sessions
