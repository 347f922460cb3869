pub mod Moving
pub mod Act
pub mod Laws
pub use Rattle.migration.specs.Pending
pub use Rattle.migration.specs.Sides as MigrationSides
pub use Rattle.engine_core.specs.Texts as EngineCoreTexts
pub use Rattle.engine_core.specs.Found
pub use Rattle.engine_core.specs.Capacity
pub use Rattle.engine_core.specs.WritesUndone
pub use Rattle.engine_core.specs.Kept as EngineCoreKept
pub use Rattle.engine_core.specs.Spoken
pub use Rattle.engine_core.specs.Undo as EngineCoreUndo
pub use Rattle.engine_core.specs.Laid
pub use Rattle.engine_core.specs.Act as EngineCoreAct
pub use Rattle.engine_core.specs.KeptTexts
pub use Rattle.engine_core.specs.declared.written.Written
pub use Rattle.engine_core.specs.Statements
pub use Rattle.engine_core.specs.Laws as EngineCoreLaws
pub use Rattle.engine_core.specs.WriteUndo
pub use Rattle.engine_core.specs.Plans
pub use Rattle.engine_core.specs.Told
pub use Rattle.engine_core.specs.Evolve
pub use Rattle.engine_core.specs.Shown
pub use Rattle.engine_core.specs.Counts
pub use Rattle.engine_core.specs.EngineStatementsLaws
pub use Rattle.engine_core.specs.EngineStatementsCalls
