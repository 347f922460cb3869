-- One row of a table, and the identifiers before it.
use Rattle.std.proofs.Common.{◌≡◌, ◌∙◌, ℕ, zero, suc, ◌+◌, ◌<◌, ◌≤◌, List, [], ◌∷◌, ◌++◌, true, length, get_or, take, Option, ap, sym, subst, arith}
use Rattle.std.proofs.lemmas.List.{take_more}
use Rattle.par_base.specs.declared.value.Value.{Value}
use Rattle.expr_lang.specs.Terms.{Term}
use Rattle.row_store.specs.Rows.{Rows, RiseFrom, AreBelow}
use Rattle.row_store.specs.inner.RowsLeft.{Comes, passed}
use Rattle.op_law.specs.Tables.{RowsWide}
use Rattle.ordinary_table.specs.Written.{numbered}
use Rattle.ordinary_table.specs.Fits.{condition_fits}

-- a row stands at the place
pub record IsRowAt (rows : Rows) (i : ℕ) (r : ℕ × List Value) : Type 0 where
  pub within : i < length rows
  pub is : r ≡ get_or rows i r

-- the next row of those that are left
pub row_at : (rows before : Rows) (r : ℕ × List Value) (left : Rows) → Comes rows before r left → IsRowAt rows (passed rows before) r
row_at rows before r left come = record { within = come.within; is = come.is }

pub take_row : (rows : Rows) (i : ℕ) (r : ℕ × List Value) → IsRowAt rows i r → take (i + 1) rows ≡ take i rows ++ r ∷ []
take_row rows i r at = take_more rows i r at.within ∙ ap (λ (q : ℕ × List Value). take i rows ++ q ∷ []) (sym at.is)

wide_at : (width : ℕ) (rows : Rows) (i : ℕ) (d : ℕ × List Value) → RowsWide width rows → i < length rows → length (get_or rows i d).1 ≡ width
wide_at width [] i d wide within = absurd (omega arith)
wide_at width (r ∷ rs) zero d wide within = wide.0
wide_at width (r ∷ rs) (suc i) d wide within = wide_at width rs i d wide.1 (omega arith)

-- it has as many values as each row
pub wide_row : (width : ℕ) (rows : Rows) (i : ℕ) (r : ℕ × List Value) → IsRowAt rows i r → RowsWide width rows → length r.1 ≡ width
wide_row width rows i r at wide = ap (λ (q : ℕ × List Value). length q.1) at.is ∙ wide_at width rows i r wide at.within

-- so a condition that fits the rows fits what it shows
pub condition_row : (width : ℕ) (rows : Rows) (i : ℕ) (r : ℕ × List Value) (condition : Option (Term ℕ)) → IsRowAt rows i r → RowsWide width rows → condition_fits condition (width + 1) ≡ true → condition_fits condition (length r.1 + 1) ≡ true
condition_row width rows i r condition at wide fits = rw (wide_row width rows i r at wide) fits

least_at : (n : ℕ) (rows : Rows) (i : ℕ) (d : ℕ × List Value) → RiseFrom n rows → i < length rows → n ≤ (get_or rows i d).0
least_at n [] i d rise within = absurd (omega arith)
least_at n (r ∷ rs) zero d rise within = rise.0
least_at n (r ∷ rs) (suc i) d rise within = omega (arith, rise.0, least_at (r.0 + 1) rs i d rise.1 (omega arith))

below_at : (n : ℕ) (rows : Rows) (i : ℕ) (d : ℕ × List Value) → RiseFrom n rows → i < length rows → AreBelow (take i rows) (get_or rows i d).0
below_at n [] i d rise within = absurd (omega arith)
below_at n (r ∷ rs) zero d rise within = tt
below_at n (r ∷ rs) (suc i) d rise within = (omega (arith, least_at (r.0 + 1) rs i d rise.1 (omega arith)), below_at (r.0 + 1) rs i d rise.1 (omega arith))

-- the rows before it have smaller identifiers
pub below_row : (rows : Rows) (i : ℕ) (r : ℕ × List Value) → IsRowAt rows i r → RiseFrom 0 rows → AreBelow (take i rows) r.0
below_row rows i r at rise = subst (λ (q : ℕ × List Value). AreBelow (take i rows) q.0) (sym at.is) (below_at 0 rows i r rise at.within)

pub below_numbered : (next : ℕ) (new : List (List Value)) (n : ℕ) → next + length new ≤ n → AreBelow (numbered next new) n
unfolding numbered
below_numbered next [] n h = tt
below_numbered next (row ∷ new) n h = (omega arith, below_numbered (next + 1) new n (omega arith))
