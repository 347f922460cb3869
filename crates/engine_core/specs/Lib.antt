pub mod Act
pub mod Kept
pub mod Undo
pub mod Spoken
pub mod Bounds
pub mod Texts
pub mod Laws
pub use Rattle.engine_versions.specs.KeptTexts
pub use Rattle.engine_layouts.specs.Laid
pub use Rattle.write_plans.specs.Capacity
pub use Rattle.write_plans.specs.Undo as WritesUndone
pub use Rattle.engine_statements.specs.Found
pub use Rattle.engine_statements.specs.Statements
pub use Rattle.engine_versions.specs.Evolve
pub use Rattle.write_plans.specs.declared.undo.Undo as WriteUndo
pub use Rattle.write_plans.specs.Plans
pub use Rattle.write_plans.specs.Told
pub use Rattle.engine_layouts.specs.Shown
pub use Rattle.engine_versions.specs.declared.edges.Counts
pub use Rattle.engine_statements.specs.Laws as EngineStatementsLaws
pub use Rattle.engine_statements.specs.Calls as EngineStatementsCalls
