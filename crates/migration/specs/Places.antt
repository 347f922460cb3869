-- The tables that a move brings to a layout.
use Rattle.std.specs.Prelude.{◌≡◌, ◌↔◌, ℕ, Option, Some, None, List, [], ◌∷◌, ◌++◌}
use Rattle.row_store.specs.Rows.{Rows}
use Rattle.row_store.specs.States.{TableState}
use Rattle.version_graph.specs.Sets.{In, Each}
use Rattle.version_graph.specs.Edges.{Rises}
use Rattle.version_graph.specs.Forest.{forest}
use Rattle.version_graph.specs.declared.parts.Placed.{Placed}
use Rattle.layout_rules.specs.Layouts.{IsStored}
use Rattle.version_model.specs.Kept.{rows_now, value_of, numbers_in}
use Rattle.version_model.specs.declared.numbered.Numbered.{Numbered}

-- a table that is kept gets an empty place, and another one its rows
abbrev pub place_rows : Option TableState → Rows → Rows
place_rows None rows = rows
place_rows (Some kept) rows = []

-- a table for a number: where none is kept, it is what was read
abbrev pub IsPlaceOf : List (Numbered TableState) → List (Numbered TableState) → ℕ → TableState → Type 0
IsPlaceOf kept read n table = table.rows ≡ place_rows (value_of kept n) (rows_now kept read n)

abbrev pub IsPlace : List (Numbered TableState) → List (Numbered TableState) → Numbered TableState → Type 0
IsPlace kept read i = IsPlaceOf kept read i.number i.value

-- one more table, at the end
abbrev pub AddsPlace : List (Numbered TableState) → List (Numbered TableState) → ℕ → List (Numbered TableState) → List (Numbered TableState) → Type 0
AddsPlace kept read n made new = (i : Numbered TableState) × (new ≡ made ++ i ∷ []) × (i.number ≡ n) × IsPlace kept read i

-- a table for each of these numbers
pub record ArePlaces (kept read : List (Numbered TableState)) (ns : List ℕ) (made : List (Numbered TableState)) : Type 0 where
  pub numbers : numbers_in made ≡ ns
  pub each : Each (IsPlace kept read) made

-- a table for each table that the layout stores, ascending
pub record AreStoredPlaces {O : Type 0} (es : List (Placed O)) (layout : List ℕ) (kept read made : List (Numbered TableState)) : Type 0 where
  pub numbers : (t : ℕ) → In t (numbers_in made) ↔ IsStored (forest es) layout t
  pub ascending : Rises 0 (numbers_in made)
  pub each : Each (IsPlace kept read) made
