-- Lemmas on pairs of identifiers.
use Rattle.std.proofs.Common.{◌≡◌, ℕ, ◌==◌, ◌&&◌, [], ◌∷◌, Bool, true, false, ◌||◌, if◌then◌else◌, refl, ◌∙◌}
use Rattle.std.specs.Ordering.{is_eq, nat_cmp, ordering_then}
use Rattle.std.specs.declared.cmp.Ordering.{Ordering}
use Rattle.std.specs.declared.cmp.Ordering.TheVariants.{Less, Equal, Greater}
use Rattle.std.specs.Cmp.{unsigned_tied}
use Rattle.std.specs.List.{list_any}
use Rattle.id_sets.specs.IdPairs.{IdPairs, holds_pair}

both_tied : (a b : Ordering) → is_eq (ordering_then a b) ≡ (is_eq a && is_eq b)
both_tied Less b = refl
both_tied Equal b = refl
both_tied Greater b = refl

-- pairs compare `Equal` exactly where both identifiers are the same
pub pairs_tied : (a b : ℕ) (e : ℕ × ℕ) → is_eq (ordering_then (nat_cmp a e.0) (nat_cmp b e.1)) ≡ (a == e.0 && b == e.1)
pairs_tied a b e = both_tied (nat_cmp a e.0) (nat_cmp b e.1) ∙ (λ i. unsigned_tied a e.0 i && unsigned_tied b e.1 i)

by_either : (one other : Bool) → (one || other) ≡ (if one then true else other)
by_either true other = refl
by_either false other = refl

-- whether a pair is there is whether std finds the key
pub holds_pair-list_any : (a b : ℕ) (es : IdPairs) → list_any (λ e. is_eq (ordering_then (nat_cmp a e.0) (nat_cmp b e.1))) es ≡ holds_pair es a b
unfolding holds_pair
holds_pair-list_any a b [] = refl
holds_pair-list_any a b (e ∷ es) = rw (holds_pair-list_any a b es, pairs_tied a b e) (by_either (a == e.0 && b == e.1) (holds_pair es a b))
