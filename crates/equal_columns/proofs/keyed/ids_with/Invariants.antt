use Rattle.std.proofs.Common.{◌≡◌, ◌-◌, ◌^◌, ◌++◌}
use Rattle.row_store.specs.Rows.{RiseFrom}
use Rattle.table_keys.specs.States.{behind}
use Rattle.equal_columns.specs.Keyed.{keyed_from}
use Rattle.equal_columns.proofs.keyed.ids_with.Given as goal

abbrev pub invariant-loop-next : goal.invariant-loop-next
invariant-loop-next l = RiseFrom 0 l.keys.rows → l.ids ++ keyed_from l.keys.rows l.key (behind l.after) ≡ keyed_from l.keys.rows l.key 0

abbrev pub decreases-loop-next : goal.decreases-loop-next
decreases-loop-next l = 2 ^ 64 - behind l.after
