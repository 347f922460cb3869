-- What is drawn for a part: the same as for the whole, where rows outside of it need nothing.
use Rattle.std.proofs.Common.{◌≡◌, ℕ, ◌+◌, ◌<◌, List, [], ◌∷◌, Bool, true, false, cond, None, refl, ap, sym, ◌∙◌, arith, Some}
use Rattle.par_base.specs.declared.value.Value.{Value}
use Rattle.row_store.specs.Rows.{Rows, RiseFrom, row_of}
use Rattle.row_store.specs.inner.FoundRows.{later, none_under, own_row}
use Rattle.op_law.specs.Local.{rows_only}
use Rattle.op_law.proofs.OnlyLaws.{by_test}
use Rattle.foreign_keys.specs.KeyParts.{FkParts}
use Rattle.foreign_keys.specs.DrawnIds.{numbered, add_once, drawn}
use Rattle.foreign_keys.specs.inner.DrawnLemmas.{numbered_rise}

-- rows that pass and need the same, beside others that need nothing, draw the same
pub drawn_same : (k : FkParts) (P : ℕ → Bool) (needs part : ℕ → List Value → Bool) (seen : List (List Value)) (m : ℕ) (near : Rows) → RiseFrom m near
    → ((x : ℕ) (row : List Value) → row_of near x ≡ Some row → P x ≡ true → part x row ≡ needs x row)
    → ((x : ℕ) (row : List Value) → row_of near x ≡ Some row → P x ≡ false → needs x row ≡ false)
    → drawn k part seen (rows_only P near) ≡ drawn k needs seen near
drawn_same k P needs part seen m [] rise same none = refl
drawn_same k P needs part seen m (x ∷ xs) rise same none =
    let rest =
    drawn_same k P needs part (cond (needs x.0 x.1) (add_once (k.second x.1) seen) seen) (x.0 + 1) xs rise.1
    (λ y row at. same y row (later x xs y row rise.1 at)) (λ y row at. none y row (later x xs y row rise.1 at)) in
    by_test (P x.0)
    (λ e. rw e (ap (λ (b : Bool). drawn k part (cond b (add_once (k.second x.1) seen) seen) (rows_only P xs)) (same x.0 x.1 (own_row x xs) e) ∙ rest))
    (λ e. rw e (ap (λ (b : Bool). drawn k part (cond b (add_once (k.second x.1) seen) seen) (rows_only P xs)) (sym (none x.0 x.1 (own_row x xs) e)) ∙ rest))

-- no drawn row is below the next identifier
pub numbered_low : (n : ℕ) (d : List (List Value)) (q : ℕ) → q < n → row_of (numbered n d) q ≡ None
numbered_low n d q h = none_under n (numbered n d) q (numbered_rise n n d (omega arith)) h
