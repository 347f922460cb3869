use Rattle.std.proofs.Common.{◌≡◌, ◌-◌, ◌≤◌, ◌++◌, length, drop}
use Rattle.row_store.specs.Rows.{Rows, RiseFrom}
use Rattle.op_law.specs.Identifiers.{ids_in}
use Rattle.op_rows.proofs.ids.add_below.Given as goal

abbrev pub invariant-loop-all : goal.invariant-loop-all
invariant-loop-all l = (l.to ≤ length l.ids) × ((rows : Rows) → RiseFrom l.id rows → l.fn.all ++ ids_in rows (drop l.from l.ids) ≡ l.all ++ ids_in rows (drop l.to l.ids))

abbrev pub decreases-loop-all : goal.decreases-loop-all
decreases-loop-all l = length l.ids - l.to
