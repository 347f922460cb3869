-- The orders in which entries stand.
use Rattle.std.specs.Ordering.{nat_cmp, ordering_then}
use Rattle.std.proofs.Common.{◌≡◌, ℕ, Ordering, Less, Equal, Greater, refl, sym, ap, ◌∙◌}
use Rattle.std.proofs.lemmas.Cmp.{nat_cmp_total, on_total, then_total, ranked}
use Rattle.ordered_pages.specs.Orders.{Order, IsTotal}

-- three identifiers: one with its pair, or a pair with its identifier
abbrev pub Triple : Type 0
Triple = ℕ × ℕ × ℕ

-- entries (p, s, t) by p
abbrev pub id_order : Order Triple ℕ
id_order = record { key = λ e. e.0; cmp = nat_cmp }

-- a pair comes before one of a greater first half, and at one first half the lower second one first
abbrev pub pair_cmp : ℕ × ℕ → ℕ × ℕ → Ordering
pair_cmp a b = ordering_then (nat_cmp a.0 b.0) (nat_cmp a.1 b.1)

-- entries (a, b, p) by the pair (a, b)
abbrev pub pair_order : Order Triple (ℕ × ℕ)
pair_order = record { key = λ e. (e.0, e.1); cmp = pair_cmp }

number_same : (a b : ℕ) → nat_cmp a b ≡ Equal → a ≡ b
number_same a b h = ranked a b Equal (sym h)

both_equal : (r s : Ordering) → ordering_then r s ≡ Equal → (r ≡ Equal) × (s ≡ Equal)
both_equal Less s h = cc
both_equal Equal s h = (refl, h)
both_equal Greater s h = cc

pair_same : (a b : ℕ × ℕ) → pair_cmp a b ≡ Equal → a ≡ b
pair_same a b h =
    let both = both_equal (nat_cmp a.0 b.0) (nat_cmp a.1 b.1) h in
    ap (λ (n : ℕ). (n, a.1)) (number_same a.0 b.0 both.0) ∙ ap (λ (n : ℕ). (b.0, n)) (number_same a.1 b.1 both.1)

pub id_total : IsTotal id_order
id_total = record { total = nat_cmp_total; same = number_same }

pub pair_total : IsTotal pair_order
pair_total = record { total = then_total (on_total (λ (a : ℕ × ℕ). a.0) nat_cmp_total) (on_total (λ (a : ℕ × ℕ). a.1) nat_cmp_total); same = pair_same }
