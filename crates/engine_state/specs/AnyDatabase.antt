-- The state of the engine: a database without layout, with a whole table for each table version.
use Rattle.op_any.specs.Operators.{AnyView}
use Rattle.version_model.specs.Kept.{Database}

abbrev pub AnyDatabase : Type 0
AnyDatabase = Database AnyView
