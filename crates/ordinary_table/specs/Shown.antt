-- Rows as expressions see them, and conditions on them.
use Rattle.std.specs.Prelude.{◌≡◌, ℕ, Bool, true, List, [], ◌∷◌, Option, Some, None}
use Rattle.std.specs.List.{filter}
use Rattle.std.specs.Option.{option_map, option_map_or}
use Rattle.std.specs.Borrow.{Bor}
use Rattle.par_base.specs.declared.value.Value.{Value}
use Rattle.par_base.specs.declared.value.Value.TheVariants.{Reference}
use Rattle.expr_lang.specs.declared.tree.Expr.{Expr}
use Rattle.expr_lang.specs.Terms.{Term, expr_term}
use Rattle.expr_lang.specs.Val.{holds_at}
use Rattle.row_store.specs.Rows.{Rows, RiseFrom, row_of}

-- a row as expressions see it: the reference to its own identifier, and then its values
abbrev pub shown : ℕ × List Value → List Value
shown r = Reference r.0 ∷ r.1

-- the condition of a statement, where it has one
abbrev pub condition_of : Option (Bor Expr) → Option (Term ℕ)
condition_of filter = option_map (λ e. expr_term e.now) filter

-- the condition holds where a row shows these values, or there is none
abbrev pub allows : Option (Term ℕ) → List Value → Bool
allows None values = true
allows (Some condition) values = holds_at condition values

-- the row meets the condition
abbrev pub meets : Option (Term ℕ) → ℕ × List Value → Bool
meets condition r = allows condition (shown r)

-- the rows that meet the condition
abbrev pub chosen : Option (Term ℕ) → Rows → Rows
chosen condition rows = filter (meets condition) rows

-- a part has all rows of a whole table that meet the condition, and no others that do
pub record HasChosen (condition : Option (Term ℕ)) (whole part : Rows) : Type 0 where
  pub rises : RiseFrom 0 whole
  pub same : chosen condition whole ≡ chosen condition part

-- the row of one identifier alone, where there is one
abbrev pub row_alone : Rows → ℕ → Rows
row_alone rows id = option_map_or (λ row. (id, row) ∷ []) (row_of rows id) []
