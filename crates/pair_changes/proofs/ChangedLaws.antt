-- Look-ups in memories after changes.
use Rattle.std.specs.Prelude.{nat_lt}
use Rattle.std.proofs.Common.{◌≡◌, ℕ, ◌+◌, ◌<◌, ◌≤◌, ◌==◌, List, [], ◌∷◌, Bool, true, false, if◌then◌else◌, Option, Some, None, refl, ap, sym, ◌∙◌, arith}
use Rattle.std.proofs.lemmas.Bool.Decides.{nat_tests}
use Rattle.std.proofs.lemmas.Bool.{cases_order, eqb-true}
use mathlib.Core.Logic.{inl, inr}
use Rattle.par_base.proofs.TestLaws.{apart_above, swap_tests}
use Rattle.id_memory.specs.Laws.{OneMemoryHasThem}
use Rattle.id_memory.specs.Pairs.{Pairs, RiseFrom, pair_of}
use Rattle.pair_changes.specs.declared.change.PairChange.{PairChange}
use Rattle.pair_changes.specs.Changed.{IsMemoryChanged, changed_pairs, put_pair, with_pair}
use Rattle.pair_changes.specs.MemoryChanges.{IsMemoryDifference, pair_after}

pub by_test : {A : Type 0} (b : Bool) → (b ≡ true → A) → (b ≡ false → A) → A
by_test true f g = f refl
by_test false f g = g refl

pub rise_more : (n m : ℕ) (es : Pairs) → n ≤ m → RiseFrom m es → RiseFrom n es
rise_more n m [] h rise = tt
rise_more n m (e ∷ es) h rise = (omega (arith, h, rise.0), rise.1)

-- nothing below the bound
pub none_under : (n : ℕ) (es : Pairs) (p : ℕ) → RiseFrom n es → p < n → pair_of es p ≡ None
none_under n [] p rise h = refl
none_under n (e ∷ es) p rise h =
    let other = apart_above e.0 p (omega (arith, h, rise.0)) in
    rw other (none_under (e.0 + 1) es p rise.1 (omega (arith, h, rise.0)))

with_rise : (n id : ℕ) (new : Option (ℕ × ℕ)) (es : Pairs) → n ≤ id → RiseFrom (id + 1) es → RiseFrom n (with_pair id new es)
with_rise n id None es h rise = rise_more n (id + 1) es (omega (arith, h)) rise
with_rise n id (Some pair) es h rise = (h, rise)

pub put_rise : (n id : ℕ) (new : Option (ℕ × ℕ)) (es : Pairs) → n ≤ id → RiseFrom n es → RiseFrom n (put_pair id new es)
put_rise n id new [] h rise = with_rise n id new [] h tt
put_rise n id new (e ∷ es) h rise =
    elim (cases_order e.0 id) [
      | inl is ↦
          let no : nat_lt e.0 id ≡ false = grind (arith, nat_tests) in
          let same : (e.0 == id) ≡ true = grind (arith, nat_tests) in
          rw (no, same) (with_rise n id new es h (rise_more (id + 1) (e.0 + 1) es (omega arith) rise.1))
      | inr (inl k) ↦
          let yes : nat_lt e.0 id ≡ true = grind (arith, nat_tests) in
          rw yes (rise.0, put_rise (e.0 + 1) id new es (omega arith) rise.1)
      | inr (inr k) ↦
          let no : nat_lt e.0 id ≡ false = grind (arith, nat_tests) in
          let other : (e.0 == id) ≡ false = grind (arith, nat_tests) in
          rw (no, other) (with_rise n id new (e ∷ es) h (omega arith, rise.1))
    ]

with_at : (id : ℕ) (new : Option (ℕ × ℕ)) (es : Pairs) (q : ℕ) → pair_of es id ≡ None → pair_of (with_pair id new es) q ≡ (if id == q then new else pair_of es q)
with_at id None es q none = by_test (id == q) (λ e. rw e (ap (pair_of es) (sym (eqb-true id q e)) ∙ none)) (λ e. rw e refl)
with_at id (Some pair) es q none = refl

over : {A : Type 0} (a b : Bool) (x y z : A) → (a ≡ b) → (if b then y else z) ≡ (if b then y else (if a then x else z))
over true true x y z e = refl
over false false x y z e = refl
over true false x y z e = absurd (cc)
over false true x y z e = absurd (cc)

-- WHAT AN IDENTIFIER HAS AFTER A PUT
pub put_at : (n id : ℕ) (new : Option (ℕ × ℕ)) (es : Pairs) (q : ℕ) → RiseFrom n es → pair_of (put_pair id new es) q ≡ (if id == q then new else pair_of es q)
put_at n id new [] q rise = with_at id new [] q refl
put_at n id new (e ∷ es) q rise =
    elim (cases_order e.0 id) [
      | inl is ↦
          let no : nat_lt e.0 id ≡ false = grind (arith, nat_tests) in
          let same : (e.0 == id) ≡ true = grind (arith, nat_tests) in
          let none = none_under (e.0 + 1) es id rise.1 (omega arith) in
          let equal : (e.0 == q) ≡ (id == q) = ap (λ (k : ℕ). k == q) is in
          rw (no, same) (with_at id new es q none ∙ over (e.0 == q) (id == q) (Some (e.1, e.2)) new (pair_of es q) equal)
      | inr (inl k) ↦
          let yes : nat_lt e.0 id ≡ true = grind (arith, nat_tests) in
          rw yes (rw (put_at (e.0 + 1) id new es q rise.1) (swap_tests (e.0 == q) (id == q) (Some (e.1, e.2)) new (pair_of es q) (λ is. grind (arith, nat_tests))))
      | inr (inr k) ↦
          let no : nat_lt e.0 id ≡ false = grind (arith, nat_tests) in
          let other : (e.0 == id) ≡ false = grind (arith, nat_tests) in
          let none : pair_of (e ∷ es) id ≡ None = none_under (id + 1) (e ∷ es) id (omega arith, rise.1) (omega arith) in
          rw (no, other) (with_at id new (e ∷ es) q none)
    ]

pub changed_rise : (es : Pairs) (cs : List PairChange) → RiseFrom 0 es → RiseFrom 0 (changed_pairs es cs)
changed_rise es [] rise = rise
changed_rise es (c ∷ cs) rise = put_rise 0 c.id c.new (changed_pairs es cs) (omega arith) (changed_rise es cs rise)

-- WHAT AN IDENTIFIER HAS AFTER CHANGES
pub changed_at : (es : Pairs) (cs : List PairChange) (q : ℕ) → RiseFrom 0 es → pair_of (changed_pairs es cs) q ≡ pair_after cs q (pair_of es q)
changed_at es [] q rise = refl
changed_at es (c ∷ cs) q rise = put_at 0 c.id c.new (changed_pairs es cs) q (changed_rise es cs rise) ∙ ap (λ (pair : Option (ℕ × ℕ)). if c.id == q then c.new else pair) (changed_at es cs q rise)

pub is_changed : (before : Pairs) (cs : List PairChange) → RiseFrom 0 before → IsMemoryChanged before cs (changed_pairs before cs)
is_changed before cs rise = record { rises = changed_rise before cs rise; pairs = λ q. changed_at before cs q rise }

-- there is no other memory after them
pub changed_is : OneMemoryHasThem → (before : Pairs) (cs : List PairChange) (now : Pairs) → RiseFrom 0 before → IsMemoryChanged before cs now → now ≡ changed_pairs before cs
changed_is one before cs now rise is = one now (changed_pairs before cs) is.rises (changed_rise before cs rise) (λ q. is.pairs q ∙ sym (changed_at before cs q rise))

-- a difference makes the second memory of the first
pub difference_makes : OneMemoryHasThem → (before now : Pairs) (cs : List PairChange) → RiseFrom 0 before → RiseFrom 0 now → IsMemoryDifference before now cs → changed_pairs before cs ≡ now
difference_makes one before now cs rise rise_now is = sym (changed_is one before cs now rise (record { rises = rise_now; pairs = is.new }))
