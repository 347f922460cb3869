use Rattle.std.proofs.Common.{◌≡◌, ◌≤◌, ◌++◌, length, drop}
use Rattle.row_store.specs.Rows.{RiseFrom}
use Rattle.op_law.specs.Identifiers.{ids_in}
use Rattle.op_rows.proofs.ids.merge_ids.Given as goal

abbrev pub invariant-loop-row : goal.invariant-loop-row
invariant-loop-row l = record {
  from : l.from ≤ length l.ids;
  rise : RiseFrom 0 l.row-iterator;
  so_far : ids_in l.table.rows l.ids ≡ l.all ++ ids_in l.row-iterator (drop l.from l.ids);
}
