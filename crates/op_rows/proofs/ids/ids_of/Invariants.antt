use Rattle.std.proofs.Common.{◌≡◌, ◌+◌, ◌≤◌, [], ◌++◌, length, vec_len, vec_capacity}
use Rattle.row_store.specs.Rows.{RiseFrom}
use Rattle.op_law.specs.Identifiers.{ids_in}
use Rattle.op_rows.proofs.ids.ids_of.Given as goal

abbrev pub invariant-loop-row : goal.invariant-loop-row
invariant-loop-row l = record {
  rise : RiseFrom 0 l.row-iterator;
  so_far : ids_in l.table.rows [] ≡ l.ids.items ++ ids_in l.row-iterator [];
  room : vec_len l.ids + length l.row-iterator ≤ vec_capacity l.ids;
}
