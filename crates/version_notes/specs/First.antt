-- All rows of tables as added.
use Rattle.std.specs.Prelude.{ℕ, List, map, Option, Some, None}
use Rattle.par_base.specs.declared.value.Value.{Value}
use Rattle.row_store.specs.Rows.{Rows}
use Rattle.row_store.specs.declared.change.Change.{Change}
use Rattle.version_graph.specs.Edges.{heading_of}
use Rattle.version_graph.specs.declared.parts.Placed.{Placed}
use Rattle.change_feed.specs.declared.note.TableChange.{TableChange}
use Rattle.version_notes.specs.Runs.{change_of}

-- each row as added
abbrev pub added : Rows → List Change
added rows = map {A = ℕ × List Value} {B = Change} (λ r. record { id = r.0; old = None; new = Some r.1 }) rows

-- a live table with all its rows as added, where it has any
abbrev pub first_change : {O : Type 0} → List (Placed O) → (ℕ → Rows) → ℕ → Option TableChange
first_change es rows t = change_of (heading_of es t) (added (rows t))
