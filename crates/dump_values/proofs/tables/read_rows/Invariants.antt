use Rattle.std.specs.Prelude.{option_map}
use Rattle.std.proofs.Common.{◌≡◌, ◌++◌, drop, length}
use Rattle.row_store.specs.Rows.{AreBelow}
use Rattle.json_members.specs.Trees.{trees_view}
use Rattle.dump_values.specs.Tables.{rows_from}
use Rattle.dump_values.proofs.tables.read_rows.Given as goal

abbrev pub invariant-loop-item : goal.invariant-loop-item
invariant-loop-item l = record {
  read : rows_from 1 (trees_view l.fn.items.items) ≡ option_map (λ rs. l.table.rows ++ rs) (rows_from l.least (trees_view (drop (length l.yielded) l.fn.items.items)));
  below : AreBelow l.table.rows l.least;
}
