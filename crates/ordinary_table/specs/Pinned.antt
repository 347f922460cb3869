-- Conditions that one row alone may meet.
use Rattle.std.specs.Prelude.{◌≡◌, ℕ, zero, Option, Some, None}
use Rattle.par_base.specs.declared.value.Value.TheVariants.{Reference}
use Rattle.expr_lang.specs.declared.tree.BinaryOp.TheVariants.{And, Equal}
use Rattle.expr_lang.specs.Terms.{Term, Literal, Column, Binary}
use Rattle.row_store.specs.Rows.{Rows, RiseFrom}
use Rattle.ordinary_table.specs.Shown.{HasChosen, row_alone}

-- the identifier of a comparison of `p` with a reference
abbrev pub compared_id : Term ℕ → Term ℕ → Option ℕ
compared_id (Column zero) (Literal (Reference id)) = Some id
compared_id _ _ = None

-- the first of two, or the other
abbrev pub first_of : Option ℕ → Option ℕ → Option ℕ
first_of (Some id) other = Some id
first_of None other = other

-- the identifier that a condition pins: by `p = #n`, alone or under AND
unfoldable pub pinned : Term ℕ → Option ℕ
pinned (Binary Equal t u) = compared_id t u
pinned (Binary And t u) = first_of (pinned t) (pinned u)
pinned _ = None

-- then the row of this identifier alone may meet it
abbrev pub PinnedStandAlone : Type 0
PinnedStandAlone = (condition : Term ℕ) (id : ℕ) (rows : Rows) → RiseFrom 0 rows → pinned condition ≡ Some id → HasChosen (Some condition) rows (row_alone rows id)
