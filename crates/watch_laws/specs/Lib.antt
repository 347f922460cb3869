pub mod Beside
pub mod Moves
pub mod Lines
pub mod Said
pub mod Scripts
pub use Rattle.script_laws.specs.Kept as ScriptLawsKept
pub use Rattle.script_laws.specs.Sessions
pub use Rattle.script_laws.specs.SessionLawsKept
pub use Rattle.script_laws.specs.SessionLawsSaid
pub use Rattle.script_laws.specs.SessionLawsSessions
pub use Rattle.script_laws.specs.EngineSessionsAct
pub use Rattle.script_laws.specs.Beside as ScriptLawsBeside
pub use Rattle.script_laws.specs.Said as ScriptLawsSaid
pub use Rattle.script_laws.specs.Written
