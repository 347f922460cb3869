-- Whether rows have so many values each, as a test.
use Rattle.std.proofs.Common.{◌≡◌, ℕ, ◌==◌, [], ◌∷◌, length, Bool, true, false, if◌then◌else◌, refl, arith}
use Rattle.std.proofs.lemmas.Bool.Decides.{nat_tests}
use Rattle.std.proofs.lemmas.Bool.{eqb-true}
use Rattle.row_store.specs.Rows.{Rows}
use Rattle.op_law.specs.Tables.{RowsWide}
use Rattle.row_parts.specs.RowCells.{by_test}

-- each row has so many values
abbrev pub are_wide : ℕ → Rows → Bool
are_wide width [] = true
are_wide width (r ∷ rs) = if length r.1 == width then are_wide width rs else false

-- the test tells it
pub wide_are : (width : ℕ) (rows : Rows) → are_wide width rows ≡ true → RowsWide width rows
wide_are width [] h = tt
wide_are width (r ∷ rs) h =
    by_test (length r.1 == width)
    (λ e. let rest : are_wide width rs ≡ true = rw e at h in (eqb-true (length r.1) width e, wide_are width rs rest))
    (λ e. let bad : false ≡ true = rw e at h in absurd (cc))

-- and what is so passes the test
pub are_wide_all : (width : ℕ) (rows : Rows) → RowsWide width rows → are_wide width rows ≡ true
are_wide_all width [] h = refl
are_wide_all width (r ∷ rs) h =
    let own : (length r.1 == width) ≡ true = grind (arith, nat_tests, h.0) in
    rw own (are_wide_all width rs h.1)
