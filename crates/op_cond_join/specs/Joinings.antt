-- What the laws see of an operator.
use Rattle.std.specs.Prelude.{◌≡◌, ◌+◌, length, true}
use Rattle.expr_lang.specs.Terms.{expr_term}
use Rattle.expr_lang.specs.Val.{fits_row}
use Rattle.op_cond_join.specs.declared.join.JoinOn.{JoinOn}
use Rattle.pair_rows.specs.Shown.{Joining}

-- the places and the condition of an operator
abbrev pub joining : JoinOn → Joining
joining it = record { first = it.first; second = it.second; condition = expr_term it.condition }

-- the condition reads only columns that a joined row has
abbrev pub Reads : JoinOn → Type 0
Reads it = fits_row (expr_term it.condition) (length it.first + length it.second) ≡ true
