-- Laws of what statements make of a table.
use Rattle.std.specs.Prelude.{◌≡◌, ◌≢◌, ℕ, ◌+◌, ◌-◌, ◌<◌, ◌≤◌, nat_lt, List, [], ◌∷◌, length, Option, Some, None, slice_get, if◌then◌else◌}
use Rattle.std.specs.List.{All}
use Rattle.std.specs.Option.{option_map, option_and_then}
use Rattle.par_base.specs.declared.value.Value.{Value}
use Rattle.expr_lang.specs.Terms.{Term}
use Rattle.expr_lang.specs.Val.{val}
use Rattle.row_store.specs.Rows.{Rows, RiseFrom, AreBelow, row_of}
use Rattle.op_law.specs.Tables.{RowsWide}
use Rattle.op_law.specs.Sound.{ValuesSound, RowsSound}
use Rattle.op_law.specs.SoundTerms.{TermSound}
use Rattle.ordinary_table.specs.Shown.{shown, meets}
use Rattle.ordinary_table.specs.Selected.{selected}
use Rattle.ordinary_table.specs.Written.{SetTerm, set_row, inserted, updated_row, updated, deleted}

-- after an INSERT each identifier below the next one has what it had, and the others have the new rows in their order
abbrev pub InsertsBehind : Type 0
InsertsBehind =
    (rows : Rows) (new : List (List Value)) (next id : ℕ) → AreBelow rows next
    → row_of (inserted rows new next) id ≡ (if nat_lt id next then row_of rows id else slice_get new (id - next))

-- after an UPDATE each identifier has its row after the UPDATE
abbrev pub UpdatesRows : Type 0
UpdatesRows =
    (rows : Rows) (sets : List SetTerm) (condition : Option (Term ℕ)) (id : ℕ)
    → row_of (updated rows sets condition) id ≡ option_map (λ row. updated_row sets condition (id, row)) (row_of rows id)

-- after a DELETE each identifier has its row, unless that met the condition
abbrev pub DeletesRows : Type 0
DeletesRows =
    (rows : Rows) (condition : Option (Term ℕ)) (id : ℕ) → RiseFrom 0 rows
    → row_of (deleted rows condition) id ≡ option_and_then (λ row. if meets condition (id, row) then None else Some row) (row_of rows id)

-- no two SETs have the same column
abbrev pub AreApart : List SetTerm → Type 0
AreApart [] = Unit {0}
AreApart (s ∷ sets) = All (λ t. t.place ≢ s.place) sets × AreApart sets

-- a column with a SET has the value of its expression at the row as it was
abbrev pub SetsColumns : Type 0
SetsColumns =
    (sets : List SetTerm) (r : ℕ × List Value) → AreApart sets
    → All (λ s. s.place < length r.1 → slice_get (set_row sets r) s.place ≡ Some (val s.value (shown r))) sets

-- a column without a SET has what it had
abbrev pub KeepsColumns : Type 0
KeepsColumns =
    (sets : List SetTerm) (r : ℕ × List Value) (place : ℕ) → All (λ s. s.place ≢ place) sets
    → slice_get (set_row sets r) place ≡ slice_get r.1 place

-- a table with so many columns, as it may stand while n is the next identifier
pub record IsTable (width n : ℕ) (rows : Rows) : Type 0 where
  pub rises : RiseFrom 0 rows
  pub wide : RowsWide width rows
  pub sound : RowsSound n rows

-- a row that may be put into such a table
pub record IsNewRow (width n : ℕ) (row : List Value) : Type 0 where
  pub wide : length row ≡ width
  pub sound : ValuesSound n row

-- an INSERT leaves such a table, while the identifier behind the new ones is the next one
abbrev pub InsertKeepsTables : Type 0
InsertKeepsTables =
    (width n : ℕ) (rows : Rows) (new : List (List Value)) → 1 ≤ n → IsTable width n rows → All (IsNewRow width n) new
    → IsTable width (n + length new) (inserted rows new n)

-- an UPDATE whose expressions may stand leaves such a table
abbrev pub UpdateKeepsTables : Type 0
UpdateKeepsTables =
    (width n : ℕ) (rows : Rows) (sets : List SetTerm) (condition : Option (Term ℕ)) → IsTable width n rows → All (λ s. TermSound n s.value) sets
    → IsTable width n (updated rows sets condition)

-- a DELETE leaves such a table
abbrev pub DeleteKeepsTables : Type 0
DeleteKeepsTables = (width n : ℕ) (rows : Rows) (condition : Option (Term ℕ)) → IsTable width n rows → IsTable width n (deleted rows condition)

-- each row that a SELECT gives has a value for each place
abbrev pub SelectIsWide : Type 0
SelectIsWide = (rows : Rows) (places : List ℕ) (condition : Option (Term ℕ)) → All (λ row. length row ≡ length places) (selected rows places condition)
