-- The order of keys is total, and none but itself equals a key.
use Rattle.std.specs.Ordering.{nat_cmp, ordering_then}
use Rattle.std.specs.Cmp.{IsTotalOrder}
use Rattle.std.proofs.Common.{◌≡◌, ℕ, List, Ordering, Less, Equal, Greater, refl, sym, ap, ◌∙◌}
use Rattle.std.proofs.lemmas.Cmp.{nat_cmp_total, on_total, then_total, ranked}
use Rattle.par_base.specs.declared.value.Value.{Value}
use Rattle.par_base.specs.RowOrder.{row_cmp}
use Rattle.par_base.specs.inner.OrderLaws.{row_total, equal_rows}
use Rattle.key_index.specs.Keys.{keyed_cmp}

both_equal : (r s : Ordering) → ordering_then r s ≡ Equal → (r ≡ Equal) × (s ≡ Equal)
both_equal Less s h = cc
both_equal Equal s h = (refl, h)
both_equal Greater s h = cc

pub keyed_total : IsTotalOrder keyed_cmp
keyed_total = then_total (on_total (λ (a : List Value × ℕ). a.0) row_total) (on_total (λ (a : List Value × ℕ). a.1) nat_cmp_total)

pub keyed_same : (a b : List Value × ℕ) → keyed_cmp a b ≡ Equal → a ≡ b
keyed_same a b h =
    let both = both_equal (row_cmp a.0 b.0) (nat_cmp a.1 b.1) h in
    let ids : a.1 ≡ b.1 = ranked a.1 b.1 Equal (sym both.1) in
    ap (λ (k : List Value). (k, a.1)) (equal_rows a.0 b.0 both.0) ∙ ap (λ (n : ℕ). (b.0, n)) ids
