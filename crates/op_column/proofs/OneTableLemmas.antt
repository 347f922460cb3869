-- Tests of what a side with one table has.
use Rattle.std.proofs.Common.{◌≡◌, ℕ, [], ◌∷◌, length, true, Some, None, refl, arith}
use Rattle.std.proofs.lemmas.Bool.{eqb-true, eq-eqb, false≢true}
use Rattle.op_rows.specs.Cells.{Cells}
use Rattle.op_column.specs.OneTable.{OneCell}
use Rattle.op_column.specs.inner.Calls.{is_one_cell}

-- no cells at all
pub no_cells : (cs : Cells) → length cs ≡ 0 → cs ≡ []
no_cells [] h = refl
no_cells (c ∷ cs) h = absurd (omega arith)

-- what one table may have passes the test
pub one_passes : (width : ℕ) (cs : Cells) → OneCell width cs → is_one_cell width cs ≡ true
one_passes width [] one = let is = one.is in absurd (cc)
one_passes width (None ∷ []) one = refl
one_passes width (Some row ∷ []) one = eq-eqb (length row) width one.wide
one_passes width (None ∷ (d ∷ ds)) one = let is = one.is in absurd (cc)
one_passes width (Some row ∷ (d ∷ ds)) one = let is = one.is in absurd (cc)

-- and nothing else does
pub passes_one : (width : ℕ) (cs : Cells) → is_one_cell width cs ≡ true → OneCell width cs
passes_one width [] e = absurd (false≢true e)
passes_one width (None ∷ []) e = record { is = refl; wide = tt }
passes_one width (Some row ∷ []) e = record { is = refl; wide = eqb-true (length row) width e }
passes_one width (None ∷ (d ∷ ds)) e = absurd (false≢true e)
passes_one width (Some row ∷ (d ∷ ds)) e = absurd (false≢true e)
