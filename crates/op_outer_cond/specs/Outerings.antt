-- What the laws see of an operator.
use Rattle.std.specs.Prelude.{◌≡◌, ℕ, zero, suc, ◌+◌, List, [], ◌∷◌, true}
use Rattle.expr_lang.specs.Terms.{expr_term}
use Rattle.expr_lang.specs.Val.{fits_row}
use Rattle.pair_rows.specs.Shown.{Joining}
use Rattle.op_outer_cond.specs.declared.outer.OuterOn.{OuterOn}

-- so many places from one on
unfoldable pub places_from : ℕ → ℕ → List ℕ
places_from from zero = []
places_from from (suc count) = from ∷ places_from (from + 1) count

-- the places of both tables' columns, and the condition of an operator
abbrev pub joining : OuterOn → Joining
joining it = record { first = places_from 0 it.first; second = places_from it.first it.second; condition = expr_term it.condition }

-- the condition reads only columns that a joined row has
abbrev pub Reads : OuterOn → Type 0
Reads it = fits_row (expr_term it.condition) (it.first + it.second) ≡ true
