-- Whether rows are the same.
use Rattle.std.proofs.Common.{◌≡◌, ℕ, ◌==◌, ◌&&◌, Bool, true, false, List, [], ◌∷◌, refl, ap, ◌∙◌}
use Rattle.std.proofs.lemmas.Bool.{eq-eqb, eqb-true, false≢true}
use Rattle.par_base.specs.SameRows.{same_row}
use Rattle.par_base.specs.inner.SameLaws.{row_equal, row_same}
use Rattle.par_base.specs.declared.value.Value.{Value}
use Rattle.row_store.specs.Rows.{Rows}
use Rattle.tx_history.specs.History.{same_rows}

both_first : (a b : Bool) → a && b ≡ true → a ≡ true
both_first true b h = refl
both_first false b h = absurd (false≢true h)

both_second : (a b : Bool) → a && b ≡ true → b ≡ true
both_second true b h = h
both_second false b h = absurd (false≢true h)

both_true : (a b : Bool) → a ≡ true → b ≡ true → a && b ≡ true
both_true true b e f = f
both_true false b e f = absurd (false≢true e)

pub rows_same : (rows : Rows) → same_rows rows rows ≡ true
rows_same [] = refl
rows_same (r ∷ rs) = both_true ((r.0 == r.0) && same_row r.1 r.1) (same_rows rs rs) (both_true (r.0 == r.0) (same_row r.1 r.1) (eq-eqb r.0 r.0 refl) (row_same r.1)) (rows_same rs)

pair_is : (a b : ℕ × List Value) → a.0 ≡ b.0 → a.1 ≡ b.1 → a ≡ b
pair_is a b e f = ap (λ (n : ℕ). (n, a.1)) e ∙ ap (λ (v : List Value). (b.0, v)) f

pub rows_equal : (rows others : Rows) → same_rows rows others ≡ true → rows ≡ others
rows_equal [] [] h = refl
rows_equal [] (t ∷ ts) h = absurd (false≢true h)
rows_equal (r ∷ rs) [] h = absurd (false≢true h)
rows_equal (r ∷ rs) (t ∷ ts) h =
    let first = both_first ((r.0 == t.0) && same_row r.1 t.1) (same_rows rs ts) h in
    let same : r ≡ t = pair_is r t (eqb-true r.0 t.0 (both_first (r.0 == t.0) (same_row r.1 t.1) first)) (row_equal r.1 t.1 (both_second (r.0 == t.0) (same_row r.1 t.1) first)) in
    ap (λ (x : ℕ × List Value). x ∷ rs) same ∙ ap (λ (l : Rows). t ∷ l) (rows_equal rs ts (both_second ((r.0 == t.0) && same_row r.1 t.1) (same_rows rs ts) h))
