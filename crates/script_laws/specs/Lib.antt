pub mod Moves
pub mod Stored
pub mod Said
pub mod Lines
pub mod Kept
pub mod Written
pub mod Scripts
pub use Rattle.session_laws.specs.Kept as SessionLawsKept
pub use Rattle.session_laws.specs.Said as SessionLawsSaid
pub use Rattle.session_laws.specs.Sessions as SessionLawsSessions
pub use Rattle.session_laws.specs.Beside
pub use Rattle.session_laws.specs.Lines as SessionLawsLines
pub use Rattle.engine_transactions.specs.Sessions
pub use Rattle.engine_transactions.specs.EngineSessionsAct
