-- A write: one table of a working set gets other rows, and the change goes along the walk.
use Rattle.std.specs.Prelude.{ℕ, ◌≤◌, List, [], ◌∷◌, length}
use Rattle.row_store.specs.Rows.{Rows, RiseFrom}
use Rattle.version_graph.specs.Sets.{In}
use Rattle.version_graph.specs.Tables.{table_numbers}
use Rattle.version_graph.specs.Edges.{working}
use Rattle.version_graph.specs.Forest.{forest, walk}
use Rattle.version_graph.specs.declared.parts.Placed.{Placed}
use Rattle.op_law.specs.Tables.{RowsWide}
use Rattle.op_law.specs.Sound.{RowsSound}
use Rattle.op_law.specs.Meaning.{Meaning}
use Rattle.version_model.specs.Put.{put}
use Rattle.version_model.specs.States.{State, headings}
use Rattle.version_model.specs.Steps.{run}

-- the state with other rows in one table, and the next identifier after those that the rows took
abbrev pub written : State → ℕ → Rows → ℕ → State
written s t rows next = record { tables = put s.tables (t ∷ []) (rows ∷ []); memory = s.memory; next = next }

-- up to the root of the working set w, and then over the rest of its tree: each operator's far side comes from its old pair and the near side as it is then
abbrev pub write : {O : Type 0} → (O → Meaning) → List (Placed O) → State → ℕ → ℕ → Rows → ℕ → State
write meaning es s w t rows next = run meaning s (written s t rows next) (walk (forest es) w)

-- rows that a table of the working set w may get
pub record MayWrite {O : Type 0} (es : List (Placed O)) (s : State) (w t : ℕ) (rows : Rows) (next : ℕ) : Type 0 where
  pub held : In t (table_numbers (working es w))
  pub rise : RiseFrom 0 rows
  pub wide : RowsWide (length (headings es t).columns) rows
  pub sound : RowsSound next rows
  pub more : s.next ≤ next
