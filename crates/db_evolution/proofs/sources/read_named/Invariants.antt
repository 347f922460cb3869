use Rattle.std.proofs.Common.{filter, take}
use Rattle.db_state.specs.Fields.{state_for}
use Rattle.db_evolution.specs.Sources.{AreRead, is_source}
use Rattle.db_evolution.proofs.sources.read_named.Given as goal

abbrev pub invariant-loop-table : goal.invariant-loop-table
invariant-loop-table g l = AreRead (state_for g.O.Operator.meaning l.db) (filter (is_source l.db.graph.edges l.edges) (take l.table-index l.tables)) l.read
