-- Lemmas on ascending identifiers.
use Rattle.std.proofs.Common.{◌≡◌, ℕ, ◌+◌, ◌<◌, ◌==◌, List, [], ◌∷◌, Bool, true, false, cond, ◌||◌, if◌then◌else◌, refl, sym, ◌∙◌, arith}
use Rattle.std.specs.Prelude.{nat_lt}
use Rattle.std.specs.Ordering.{nat_cmp, match_ordering}
use Rattle.std.specs.declared.cmp.Ordering.TheVariants.{Less, Equal, Greater}
use Rattle.std.specs.BTreeMap.{is_at}
use Rattle.std.specs.BTreeSet.{insert_key}
use Rattle.std.specs.List.{list_any, AllByRecursion}
use Rattle.std.specs.List.Sorted.{IsStrictlySortedBy}
use Rattle.std.specs.Cmp.{unsigned_tied}
use Rattle.std.proofs.lemmas.Cmp.{ranked}
use Rattle.std.proofs.lemmas.Map.Keys.{sorted_head, sorted_tail}
use Rattle.std.proofs.lemmas.Bool.Decides.{nat_tests}
use Rattle.op_law.specs.Identifiers.{put_id, has_id, IdsRise}

-- a choice by an order is a choice by two tests
by_order : {X : Type 0} (below same : Bool) (a b c : X) → match_ordering (cond below Less (cond same Equal Greater)) a b c ≡ (if below then a else if same then b else c)
by_order true same a b c = refl
by_order false true a b c = refl
by_order false false a b c = refl

-- an identifier is put where std puts a key
pub put_id-insert_key : (id : ℕ) (ids : List ℕ) → insert_key nat_cmp ids id ≡ put_id id ids
put_id-insert_key id [] = refl
put_id-insert_key id (x ∷ xs) = rw (put_id-insert_key id xs) (by_order (nat_lt id x) (id == x) (id ∷ x ∷ xs) (x ∷ xs) (x ∷ put_id id xs))

by_either : (one other : Bool) → (one || other) ≡ (if one then true else other)
by_either true other = refl
by_either false other = refl

tied_back : (id x : ℕ) → is_at (nat_cmp id) x ≡ (x == id)
tied_back id x =
    let here : is_at (nat_cmp id) x ≡ (id == x) = unsigned_tied id x in
    let turned : (id == x) ≡ (x == id) = grind (arith, nat_tests) in
    here ∙ turned

-- whether an identifier is there is whether std finds the key
pub has_id-list_any : (id : ℕ) (ids : List ℕ) → list_any (is_at (nat_cmp id)) ids ≡ has_id ids id
has_id-list_any id [] = refl
has_id-list_any id (x ∷ xs) = rw (has_id-list_any id xs, tied_back id x) (by_either (x == id) (has_id xs id))

-- keys above one, in std's order, rise from the next number
rise_above : (x : ℕ) (xs : List ℕ) → AllByRecursion (λ y. nat_cmp x y ≡ Less) xs → IsStrictlySortedBy nat_cmp xs → IdsRise (x + 1) xs
rise_above x [] above sorted = tt
rise_above x (y ∷ ys) above sorted =
    let less : x < y = ranked x y Less (sym above.0) in
    (omega (arith, less), rise_above y ys (sorted_head nat_cmp y ys sorted) (sorted_tail nat_cmp y ys sorted))

-- keys in std's order rise
pub IdsRise-sorted : (ids : List ℕ) → IsStrictlySortedBy nat_cmp ids → IdsRise 0 ids
IdsRise-sorted [] sorted = tt
IdsRise-sorted (x ∷ xs) sorted = (omega arith, rise_above x xs (sorted_head nat_cmp x xs sorted) (sorted_tail nat_cmp x xs sorted))
