use Rattle.std.specs.Prelude.{option_map}
use Rattle.std.proofs.Common.{◌≡◌, ◌++◌, List, drop, length, map}
use Rattle.json_members.specs.Trees.{trees_view}
use Rattle.row_store.specs.Rows.{Rows}
use Rattle.row_store.specs.States.{TableState}
use Rattle.json_members.specs.Members.{list_of}
use Rattle.dump_values.specs.Tables.{table_of}
use Rattle.dump_values.proofs.tables.read_each_table.Given as goal

abbrev pub invariant-loop-item : goal.invariant-loop-item
invariant-loop-item l = list_of table_of (trees_view l.fn.items.items) ≡ option_map (λ (ts : List Rows). map (λ (t : TableState). t.rows) l.tables ++ ts) (list_of table_of (trees_view (drop (length l.yielded) l.fn.items.items)))
