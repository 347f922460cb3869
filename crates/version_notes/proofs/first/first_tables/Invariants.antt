use Rattle.std.specs.Prelude.{filter_map}
use Rattle.std.proofs.Common.{◌≡◌, take}
use Rattle.db_state.specs.Fields.{state_for}
use Rattle.version_notes.specs.First.{first_change}
use Rattle.version_notes.proofs.first.first_tables.Given as goal

abbrev pub invariant-loop-number : goal.invariant-loop-number
invariant-loop-number g l = l.tables ≡ filter_map (first_change l.database.graph.edges (state_for g.O.Operator.meaning l.database).tables) (take l.number-index l.numbers)
