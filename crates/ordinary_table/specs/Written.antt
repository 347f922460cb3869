-- What INSERT, UPDATE and DELETE make of a table.
use Rattle.std.specs.Prelude.{ℕ, ◌+◌, ◌==◌, not, List, [], ◌∷◌, ◌++◌, map, Option, if◌then◌else◌}
use Rattle.std.specs.List.{filter, count_by}
use Rattle.par_base.specs.declared.value.Value.{Value}
use Rattle.expr_lang.specs.Terms.{Term, expr_term}
use Rattle.expr_lang.specs.Val.{val}
use Rattle.row_store.specs.Rows.{Rows}
use Rattle.ordinary_table.specs.declared.update.SetTo.{SetTo}
use Rattle.ordinary_table.specs.Shown.{shown, meets}

-- rows under the identifiers from the next one on
unfoldable pub numbered : ℕ → List (List Value) → Rows
numbered next [] = []
numbered next (row ∷ rows) = (next, row) ∷ numbered (next + 1) rows

-- the table after an INSERT: the new rows stand behind the others
abbrev pub inserted : Rows → List (List Value) → ℕ → Rows
inserted rows new next = rows ++ numbered next new

-- a SET: the place of its column, and its expression
pub record SetTerm : Type 0 where
  pub place : ℕ
  pub value : Term ℕ

abbrev pub set_term : SetTo → SetTerm
set_term s = record { place = s.place; value = expr_term s.value }

-- the SETs of an UPDATE
abbrev pub sets_of : List SetTo → List SetTerm
sets_of sets = map set_term sets

-- what a column gets: the value of its last SET at what the row showed before all of them, or, without a SET, what it had
abbrev pub value_after : List SetTerm → List Value → ℕ → Value → Value
value_after [] before place own = own
value_after (s ∷ sets) before place own = value_after sets before place (if s.place == place then val s.value before else own)

-- the values of the columns from a place on, after the SETs
abbrev pub values_after : List SetTerm → List Value → ℕ → List Value → List Value
values_after sets before place [] = []
values_after sets before place (own ∷ values) = value_after sets before place own ∷ values_after sets before (place + 1) values

-- the row after the SETs
abbrev pub set_row : List SetTerm → ℕ × List Value → List Value
set_row sets r = values_after sets (shown r) 0 r.1

-- a row after an UPDATE
abbrev pub updated_row : List SetTerm → Option (Term ℕ) → ℕ × List Value → List Value
updated_row sets condition r = if meets condition r then set_row sets r else r.1

-- the table after an UPDATE
abbrev pub updated : Rows → List SetTerm → Option (Term ℕ) → Rows
updated rows sets condition = map (λ r. (r.0, updated_row sets condition r)) rows

-- the table after a DELETE: the rows that don't meet the condition
abbrev pub deleted : Rows → Option (Term ℕ) → Rows
deleted rows condition = filter (λ r. not (meets condition r)) rows

-- how many rows an UPDATE or a DELETE chooses
abbrev pub chosen_count : Rows → Option (Term ℕ) → ℕ
chosen_count rows condition = count_by (meets condition) rows
