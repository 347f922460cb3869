-- The rows of T with the value that a row of S has.
use Rattle.std.specs.Prelude.{◌≡◌, ℕ, List, [], ◌∷◌, Bool, true, false, ◌&&◌, if◌then◌else◌, filter, nat_le, Some}
use Rattle.expr_lang.specs.Terms.{Term}
use Rattle.expr_lang.specs.Val.{holds_at}
use Rattle.par_base.specs.SameRows.{same_row}
use Rattle.par_base.specs.declared.value.Value.{Value}
use Rattle.row_store.specs.Rows.{Rows, row_of}
use Rattle.row_parts.specs.Places.{row_of_both as joined_row}
use Rattle.row_parts.specs.RowEdits.{value_at}
use Rattle.pair_rows.specs.Shown.{Joining, pairs_with}
use Rattle.pair_rows.specs.inner.Changed.{pairs_of}
use Rattle.table_keys.specs.Keys.{key_by, keys_by}
use Rattle.equal_columns.specs.declared.keyed.KeyedRows.{KeyedRows}

-- the identifiers from this one on that have the key
abbrev pub keyed_from : Rows → List Value → ℕ → List ℕ
keyed_from [] key from = []
keyed_from (r ∷ rs) key from = if nat_le from r.0 && same_row r.1 key then r.0 ∷ keyed_from rs key from else keyed_from rs key from

-- the test passes only matching pairs of this row, which has the identifier a
abbrev pub PassesMatches : Joining → Term ℕ → Rows → List Value → ℕ → (ℕ × ℕ → Bool) → Type 0
PassesMatches j condition t row a test = (b : ℕ) (other : List Value) → row_of t b ≡ Some other → holds_at condition (joined_row j.first j.second row other) ≡ false → test (a, b) ≡ false

-- these rows of T are enough for a row of S: a test of matching pairs passes the same ones of them as of all
abbrev pub AreEnough : Joining → Term ℕ → Rows → List Value → List ℕ → Type 0
AreEnough j condition t row ids = (a : ℕ) (test : ℕ × ℕ → Bool) → PassesMatches j condition t row a test → filter test (pairs_of a ids) ≡ filter test (pairs_with a t)

-- the keys are T's, and equal to a row's value in the column wherever the condition holds
pub record AreKeyed (j : Joining) (condition : Term ℕ) (t : Rows) (it : KeyedRows) : Type 0 where
  pub rows : it.keys.rows ≡ keys_by it.keys.columns t
  pub equal : (row other : List Value) → holds_at condition (joined_row j.first j.second row other) ≡ true → key_by it.keys.columns other ≡ value_at it.column row ∷ []
