-- Ascending changes, halved: the place of an identifier.
use Rattle.std.specs.Prelude.{slice_get}
use Rattle.std.proofs.Common.{◌≡◌, ℕ, zero, suc, ◌+◌, ◌<◌, ◌≤◌, ◌==◌, List, [], ◌∷◌, Bool, true, false, ltb, Option, Some, None, length, get_or, refl, ap, sym, ◌∙◌, arith}
use Rattle.std.specs.List.Sorted.{IsNonDecreasingBy}
use Rattle.std.proofs.lemmas.Bool.{ltb-true, ltb-false}
use Rattle.std.proofs.lemmas.Bool.Decides.{nat_tests}
use Rattle.par_base.specs.declared.value.Value.{Value}
use Rattle.op_law.proofs.OnlyLaws.{by_test}
use Rattle.row_store.specs.declared.change.Change.{Change}
use Rattle.row_store.specs.Changes.{ChangesRise, after}
use Rattle.cell_changes.specs.Places.{change_of, only_of, IsPlaceOf}

least : (n : ℕ) (cs : List Change) (j : ℕ) (d : Change) → ChangesRise n cs → j < length cs → n ≤ (get_or cs j d).id
least n [] j d rise h = absurd (omega arith)
least n (c ∷ cs) zero d rise h = rise.0
least n (c ∷ cs) (suc j) d rise h = omega (arith, rise.0, least (c.id + 1) cs j d rise.1 (omega arith))

-- their identifiers ascend
pub rising : (n : ℕ) (cs : List Change) → ChangesRise n cs → IsNonDecreasingBy (λ (c : Change). c.id) cs
rising n [] rise i j d low h = absurd (omega arith)
rising n (c ∷ cs) rise zero zero d low h = omega arith
rising n (c ∷ cs) rise zero (suc j) d low h = omega (arith, least (c.id + 1) cs j d rise.1 (omega arith))
rising n (c ∷ cs) rise (suc i) zero d low h = absurd (omega arith)
rising n (c ∷ cs) rise (suc i) (suc j) d low h = rising (c.id + 1) cs rise.1 i j d (omega arith) (omega arith)

none_below : (n : ℕ) (cs : List Change) (id : ℕ) → ChangesRise n cs → id < n → change_of cs id ≡ None
none_below n [] id rise h = refl
none_below n (c ∷ cs) id rise h =
    let other : (c.id == id) ≡ false = grind (arith, nat_tests, rise.0) in
    rw other (none_below (c.id + 1) cs id rise.1 (omega (arith, rise.0)))

-- the place where all before are less, and none behind is
pub place_is : (n : ℕ) (cs : List Change) (id at : ℕ) → ChangesRise n cs → at ≤ length cs → ((i : ℕ) (d : Change) → 0 ≤ i → i < at → ltb (get_or cs i d).id id ≡ true)
    → ((i : ℕ) (d : Change) → at ≤ i → i < length cs → ltb (get_or cs i d).id id ≡ false) → IsPlaceOf cs id at
place_is n [] id zero rise h below above = refl
place_is n [] id (suc at) rise h below above = absurd (omega arith)
place_is n (c ∷ cs) id zero rise h below above =
    by_test (c.id == id)
    (λ e. rw e refl)
    (λ e.
    let high : id ≤ c.id = ltb-false c.id id (above 0 c (omega arith) (omega arith)) in
    let less : id < c.id + 1 = omega (arith, high) in
    rw e (none_below (c.id + 1) cs id rise.1 less))
place_is n (c ∷ cs) id (suc at) rise h below above =
    let less = ltb-true c.id id (below 0 c (omega arith) (omega arith)) in
    let other : (c.id == id) ≡ false = grind (arith, nat_tests, less) in
    rw other (place_is (c.id + 1) cs id at rise.1 (omega arith) (λ i d l g. below (suc i) d (omega arith) (omega arith)) (λ i d l g. above (suc i) d (omega arith) (omega arith)))

-- what an identifier has after its change
pub after_one : (cs : List Change) (id : ℕ) (row : Option (List Value)) (c : Change) → Some c ≡ change_of cs id → after cs id row ≡ c.new
after_one [] id row c e = absurd (cc)
after_one (b ∷ bs) id row c e =
    by_test (b.id == id)
    (λ t. let same : Some c ≡ Some b = rw t at e in rw t (let is : b ≡ c = cc in ap (λ (x : Change). x.new) is))
    (λ t. let rest : Some c ≡ change_of bs id = rw t at e in rw t (after_one bs id row c rest))

-- and without one
pub after_none : (cs : List Change) (id : ℕ) (row : Option (List Value)) → None ≡ change_of cs id → after cs id row ≡ row
after_none [] id row e = refl
after_none (b ∷ bs) id row e =
    by_test (b.id == id)
    (λ t. let same : None ≡ Some b = rw t at e in absurd (cc))
    (λ t. let rest : None ≡ change_of bs id = rw t at e in rw t (after_none bs id row rest))

-- what stands at the place is the change of the identifier, if it is one
pub found_here : (cs : List Change) (id at : ℕ) (c : Change) → IsPlaceOf cs id at → Some c ≡ slice_get cs at → c.id ≡ id → Some c ≡ change_of cs id
found_here cs id at c place found same =
    let own : (c.id == id) ≡ true = grind (arith, nat_tests, same) in
    let here : only_of id (Some c) ≡ Some c = rw own refl in
    sym here ∙ ap (only_of id) found ∙ sym place

pub found_other : (cs : List Change) (id at : ℕ) (c : Change) → IsPlaceOf cs id at → Some c ≡ slice_get cs at → (c.id ≡ id → ⊥) → None ≡ change_of cs id
found_other cs id at c place found differ =
    let other : (c.id == id) ≡ false = grind (arith, nat_tests, differ) in
    let none : only_of id (Some c) ≡ None = rw other refl in
    sym none ∙ ap (only_of id) found ∙ sym place

pub found_none : (cs : List Change) (id at : ℕ) → IsPlaceOf cs id at → None ≡ slice_get cs at → None ≡ change_of cs id
found_none cs id at place none = ap (only_of id) none ∙ sym place
