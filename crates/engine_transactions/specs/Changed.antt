-- Which tables a statement gave other rows.
use Rattle.std.specs.Prelude.{ℕ, Bool, not, if◌then◌else◌}
use Rattle.std.specs.List.{list_any}
use Rattle.version_graph.specs.Tables.{table_numbers}
use Rattle.version_graph.specs.Edges.{made}
use Rattle.engine_state.specs.AnyDatabase.{AnyDatabase}
use Rattle.tx_history.specs.History.{History, same_rows, with_changes}

-- the table has other rows
abbrev pub has_changed : AnyDatabase → AnyDatabase → ℕ → Bool
has_changed old new t = not (same_rows (old.state.tables t) (new.state.tables t))

-- writes that gave these tables other rows: one number for all of them, and none where no table of the graph is among these
abbrev pub with_writes : History → AnyDatabase → (ℕ → Bool) → History
with_writes h s test = if list_any test (table_numbers (made s.graph.edges)) then with_changes h test else h
