use Rattle.std.specs.Prelude.{filter_map}
use Rattle.std.proofs.Common.{◌≡◌, ◌++◌, map, take}
use Rattle.op_any.specs.Operators.{any_meaning}
use Rattle.statements.specs.Views.{statement_view}
use Rattle.db_state.specs.Fields.{database_for}
use Rattle.engine_sessions.specs.Accesses.{accessed}
use Rattle.engine_transactions.proofs.accesses.push_all_accessed.Given as goal

abbrev pub invariant-loop-write : goal.invariant-loop-write
invariant-loop-write l = l.tables ≡ l.initial.tables ++ filter_map (accessed (database_for any_meaning l.database)) (map statement_view (take l.write-index l.writes))
