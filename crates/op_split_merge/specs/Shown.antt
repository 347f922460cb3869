-- What writes through SPLIT and MERGE show, said without the truth values of the mappings.
use Rattle.std.specs.Prelude.{◌≡◌, ◌≢◌, ℕ, List, [], ◌∷◌, true, false, Option, Some, None}
use Rattle.par_base.specs.declared.value.Value.{Value}
use Rattle.expr_lang.specs.Terms.{Term}
use Rattle.expr_lang.specs.Val.{holds_at}
use Rattle.op_rows.specs.Cells.{Cells, nth_cell}
use Rattle.op_rows.specs.RowMeaning.{RowMeaning, flip_row}
use Rattle.row_parts.specs.RowCells.{Cell}
use Rattle.op_split_merge.specs.Split.{split}

-- what an operator does at one identifier, whatever it computes
pub record Ways : Type 0 where
  -- the targets, from the new sources and the old rows of both sides
  pub forward : Cells → Cells → Cells → Cells
  -- the sources, from the new targets and the old rows of both sides
  pub backward : Cells → Cells → Cells → Cells
  -- what is kept beside the targets
  pub beside : Cells → Cells → Cells

abbrev pub ways_of : RowMeaning → Ways
ways_of r = record { forward = r.forward; backward = r.backward; beside = r.aux_at_target }

abbrev pub split_ways : ℕ → Term ℕ → Option (Term ℕ) → Ways
split_ways width first second = ways_of (split width first second)

abbrev pub merge_ways : ℕ → Term ℕ → Option (Term ℕ) → Ways
merge_ways width first second = ways_of (flip_row (split width first second))

-- what the targets have after the source's row is written, by what they had
abbrev pub shown : Ways → List Value → Cells → Cells
shown ways row old = ways.forward (Some row ∷ []) (None ∷ []) old

-- ---- SPLIT into two targets

module _ (ways : Ways) (first second : Term ℕ) where
  -- a row of a new identifier that meets both conditions stands in both targets
  abbrev pub NewInBoth : Type 0
  NewInBoth = (row : List Value) → holds_at first row ≡ true → holds_at second row ≡ true → shown ways row (None ∷ None ∷ []) ≡ Some row ∷ Some row ∷ []

  -- one that meets one condition stands in that target
  abbrev pub NewInFirst : Type 0
  NewInFirst = (row : List Value) → holds_at first row ≡ true → holds_at second row ≡ false → shown ways row (None ∷ None ∷ []) ≡ Some row ∷ None ∷ []

  abbrev pub NewInSecond : Type 0
  NewInSecond = (row : List Value) → holds_at first row ≡ false → holds_at second row ≡ true → shown ways row (None ∷ None ∷ []) ≡ None ∷ Some row ∷ []

  -- one that meets neither stands in neither, and is kept beside them
  abbrev pub NewInNeither : Type 0
  NewInNeither = (row : List Value) → holds_at first row ≡ false → holds_at second row ≡ false
      → (shown ways row (None ∷ None ∷ []) ≡ None ∷ None ∷ []) × (ways.beside (Some row ∷ []) (None ∷ None ∷ []) ≡ Some row ∷ [])

  -- a lost twin stays lost while the row meets the condition of the other target
  abbrev pub LostFirstStays : Type 0
  LostFirstStays = (row old : List Value) → holds_at first old ≡ true → holds_at second row ≡ true → shown ways row (None ∷ Some old ∷ []) ≡ None ∷ Some row ∷ []

  abbrev pub LostSecondStays : Type 0
  LostSecondStays = (row old : List Value) → holds_at second old ≡ true → holds_at first row ≡ true → shown ways row (Some old ∷ None ∷ []) ≡ Some row ∷ None ∷ []

  -- separated twins stay so: the first gets the new row, and the second keeps its own
  abbrev pub SeparatedStay : Type 0
  SeparatedStay = (row r s : List Value) → r ≢ s → holds_at first row ≡ true → shown ways row (Some r ∷ Some s ∷ []) ≡ Some row ∷ Some s ∷ []

  -- a row that a target lacked, since it didn't meet its condition, comes into it once it does
  abbrev pub FirstComesIn : Type 0
  FirstComesIn = (row old : List Value) → holds_at first old ≡ false → holds_at first row ≡ true → holds_at second row ≡ true → shown ways row (None ∷ Some old ∷ []) ≡ Some row ∷ Some row ∷ []

  abbrev pub SecondComesIn : Type 0
  SecondComesIn = (row old : List Value) → holds_at second old ≡ false → holds_at first row ≡ true → holds_at second row ≡ true → shown ways row (Some old ∷ None ∷ []) ≡ Some row ∷ Some row ∷ []

  -- a row that is deleted in every target that had it goes from the source
  abbrev pub DeletedGoes : Type 0
  DeletedGoes = (c s : Cell) (row : List Value) → (ways.backward (None ∷ None ∷ []) (c ∷ []) (Some row ∷ s ∷ []) ≡ None ∷ [])
      × (ways.backward (None ∷ None ∷ []) (c ∷ []) (None ∷ Some row ∷ []) ≡ None ∷ [])

  -- a target that has the row against its condition gets the new row, whatever that meets
  abbrev pub AgainstStays : Type 0
  AgainstStays = (row old : List Value) (s : Cell) → holds_at first old ≡ false → nth_cell 0 (shown ways row (Some old ∷ s ∷ [])) ≡ Some row

-- ---- SPLIT into one target

pub record OneTargetShows (ways : Ways) (condition : Term ℕ) : Type 0 where
  -- a row that meets the condition stands in the target, whatever that had
  pub meets : (row : List Value) (old : Cell) → holds_at condition row ≡ true → shown ways row (old ∷ []) ≡ Some row ∷ []
  -- one of a new identifier that fails it doesn't, and is kept beside it
  pub new_fails : (row : List Value) → holds_at condition row ≡ false
      → (shown ways row (None ∷ []) ≡ None ∷ []) × (ways.beside (Some row ∷ []) (None ∷ []) ≡ Some row ∷ [])
  -- a row that met the condition leaves the target when it meets it no more
  pub leaves : (row old : List Value) → holds_at condition old ≡ true → holds_at condition row ≡ false → shown ways row (Some old ∷ []) ≡ None ∷ []
  -- a row that stands there against the condition stays there
  pub against : (row old : List Value) → holds_at condition old ≡ false → shown ways row (Some old ∷ []) ≡ Some row ∷ []

-- ---- MERGE of two sources

module _ (ways : Ways) where
  -- what both sources have after the target's row is written, by what they had
  abbrev pub taken_back : List Value → Cells → Cells
  taken_back row old = ways.backward (Some row ∷ []) old (None ∷ [])

  -- a row of a new identifier in either source stands in the target
  abbrev pub NewRowsMerged : Type 0
  NewRowsMerged = (row : List Value)
      → (ways.forward (Some row ∷ None ∷ []) (None ∷ None ∷ []) (None ∷ []) ≡ Some row ∷ [])
      × (ways.forward (None ∷ Some row ∷ []) (None ∷ None ∷ []) (None ∷ []) ≡ Some row ∷ [])

  -- where both sources have the identifier, the target has the first source's row, and the second's where that one is deleted
  abbrev pub TwinsMerged : Type 0
  TwinsMerged = (row other : List Value) (old t : Cells)
      → (ways.forward (Some row ∷ Some other ∷ []) old t ≡ Some row ∷ [])
      × (ways.forward (None ∷ Some other ∷ []) old t ≡ Some other ∷ [])

  -- a write of the target's row is a write of one twin where the twins differ: the second keeps its own
  abbrev pub OneTwinWritten : Term ℕ → Type 0
  OneTwinWritten first = (row r s : List Value) → r ≢ s → holds_at first row ≡ true → taken_back row (Some r ∷ Some s ∷ []) ≡ Some row ∷ Some s ∷ []
