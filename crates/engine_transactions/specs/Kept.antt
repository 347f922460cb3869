-- The database beneath transactions.
use Rattle.op_any.specs.Operators.{AnyView}
use Rattle.db_state.specs.declared.parts.Parts.{Parts}
use Rattle.engine_sessions.specs.Standing.{kept_in as kept_beside}
use Rattle.engine_transactions.specs.declared.kept.Kept.{Kept}

-- the database that a value keeps, with its layout
abbrev pub kept_in : Kept → Parts AnyView
kept_in it = kept_beside it.executing.sessions
