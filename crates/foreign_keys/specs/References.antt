-- References: to which identifier a value refers, and what a table has there.
use Rattle.std.specs.Prelude.{◌≡◌, ℕ, ◌==◌, List, [], ◌∷◌, Bool, true, false, not, cond, Option, Some, None}
use Rattle.par_base.specs.declared.value.Value.{Value}
use Rattle.par_base.specs.declared.value.Value.TheVariants.{Null, Int, Text, Reference}
use Rattle.row_store.specs.Rows.{Rows, row_of}
use Rattle.op_rows.specs.inner.CellLemmas.{has_id}
use Rattle.row_parts.specs.RowCells.{Cell, is_there, row_or}
use Rattle.foreign_keys.specs.KeyParts.{FkParts}

-- the identifier to which a value refers
abbrev pub goal_of : Value → Option ℕ
goal_of (Reference q) = Some q
goal_of Null = None
goal_of (Int i) = None
goal_of (Text t) = None

-- whether q is the goal
abbrev pub is_goal : Option ℕ → ℕ → Bool
is_goal None q = false
is_goal (Some p) q = p == q

-- what the table has there
abbrev pub at_goal : Rows → Option ℕ → Cell
at_goal t None = None
at_goal t (Some q) = row_of t q

-- it is a reference to no row
abbrev pub dangles : Rows → Option ℕ → Bool
dangles t None = false
dangles t (Some q) = not (is_there (row_of t q))

module _ (k : FkParts) where
  -- some row of S refers to q
  abbrev pub referred : Rows → ℕ → Bool
  referred [] q = false
  referred (r ∷ rs) q = cond (is_goal (goal_of (k.key r.1)) q) true (referred rs q)

  -- the T part that a foreign key gives: the row to which it refers, and nulls where it refers to none
  abbrev pub far_part : Rows → Value → List Value
  far_part t f = row_or k.null_second (at_goal t (goal_of f))

  -- the identifiers to which rows of S refer, and no others
  abbrev pub AreReferred : Rows → List ℕ → Type 0
  AreReferred s ids = (q : ℕ) → has_id ids q ≡ referred s q
