-- The difference of what is left of two memories.
use Rattle.std.proofs.Common.{◌≡◌, ℕ, suc, length, ◌+◌, ◌<◌, ◌≤◌, ◌==◌, List, [], ◌∷◌, ◌++◌, false, Option, Some, None, refl, ap, sym, ◌∙◌, subst, arith}
use Rattle.std.proofs.lemmas.Bool.{eq-eqb, eqb-true, cases_lt}
use mathlib.Core.Logic.{inl, inr}
use Rattle.par_base.proofs.TestLaws.{apart_above, apart_below}
use Rattle.id_memory.specs.Pairs.{Pairs, RiseFrom, pair_of}
use Rattle.pair_changes.specs.declared.change.PairChange.{PairChange}
use Rattle.pair_changes.specs.Changed.{with_pair}
use Rattle.pair_changes.specs.MemoryChanges.{ArePairChanges, IsMemoryDifference, pair_after}
use Rattle.pair_changes.specs.inner.Calls.{ChangesRise, Tells}
use Rattle.pair_changes.proofs.ChangedLaws.{by_test, none_under}

pub rise_of : (n : ℕ) (bs : Pairs) (ds : List PairChange) → ArePairChanges n bs ds → ChangesRise n ds
rise_of n bs [] fit = tt
rise_of n bs (d ∷ ds) fit = (fit.0, rise_of (d.id + 1) bs ds fit.3)

-- what is below the identifiers of changes stays
pub after_under : (n : ℕ) (ds : List PairChange) (q : ℕ) (pair : Option (ℕ × ℕ)) → ChangesRise n ds → q < n → pair_after ds q pair ≡ pair
after_under n [] q pair rise h = refl
after_under n (d ∷ ds) q pair rise h =
    let other = apart_above d.id q (omega (arith, h, rise.0)) in
    rw other (after_under (d.id + 1) ds q pair rise.1 (omega (arith, h, rise.0)))

-- the first pair that is left, and those behind it
pub with_own : (id : ℕ) (pair : Option (ℕ × ℕ)) (es : Pairs) → RiseFrom (id + 1) es → pair_of (with_pair id pair es) id ≡ pair
with_own id None es rise = none_under (id + 1) es id rise (omega arith)
with_own id (Some pair) es rise = let own = eq-eqb id id refl in rw own refl

with_other : (id : ℕ) (pair : Option (ℕ × ℕ)) (es : Pairs) (q : ℕ) → (id == q) ≡ false → pair_of (with_pair id pair es) q ≡ pair_of es q
with_other id None es q e = refl
with_other id (Some pair) es q e = rw e refl

fit_more : (n m : ℕ) (bs cs : Pairs) (ds : List PairChange) → n ≤ m → ((q : ℕ) → m ≤ q → pair_of bs q ≡ pair_of cs q) → ArePairChanges m cs ds → ArePairChanges n bs ds
fit_more n m bs cs [] h same fit = tt
fit_more n m bs cs (d ∷ ds) h same fit = (
  omega (arith, h, fit.0),
  fit.1 ∙ sym (same d.id fit.0),
  fit.2,
  fit_more (d.id + 1) (d.id + 1) bs cs ds (omega arith) (λ q k. same q (omega (arith, k, fit.0))) fit.3,
)

-- the difference of what is left, from an identifier on
pub record IsDifferenceFrom (n : ℕ) (bs ns : Pairs) (ds : List PairChange) : Type 0 where
  pub fit : ArePairChanges n bs ds
  pub new : (q : ℕ) → pair_of ns q ≡ pair_after ds q (pair_of bs q)

module _ (n id : ℕ) (old new : Option (ℕ × ℕ)) (bs ns : Pairs) (ds : List PairChange) (h : n ≤ id) (rise_b : RiseFrom (id + 1) bs) (rise_n : RiseFrom (id + 1) ns) (from : IsDifferenceFrom (id + 1) bs ns ds) where
  behind : (q : ℕ) → (id == q) ≡ false → pair_of (with_pair id new ns) q ≡ pair_after ds q (pair_of (with_pair id old bs) q)
  behind q e = with_other id new ns q e ∙ from.new q ∙ ap (λ (pair : Option (ℕ × ℕ)). pair_after ds q pair) (sym (with_other id old bs q e))

  fits : (m : ℕ) → m ≤ id + 1 → ArePairChanges m (with_pair id old bs) ds
  fits m k = fit_more m (id + 1) (with_pair id old bs) bs ds k (λ q j. with_other id old bs q (apart_below id q (omega (arith, j)))) from.fit

  -- one identifier before it, whose pairs differ
  more_of : (old ≡ new → ⊥) → IsDifferenceFrom n (with_pair id old bs) (with_pair id new ns) (record { id = id; old = old; new = new } ∷ ds)
  more_of apart = record {
    fit = (h, sym (with_own id old bs rise_b), apart, fits (id + 1) (omega arith));
    new = λ q. by_test (id == q)
        (λ e. rw e (ap (λ (k : ℕ). pair_of (with_pair id new ns) k) (sym (eqb-true id q e)) ∙ with_own id new ns rise_n))
        (λ e. rw e (behind q e));
  }

  -- one whose pairs are the same
  same_of : old ≡ new → IsDifferenceFrom n (with_pair id old bs) (with_pair id new ns) ds
  same_of same = record {
    fit = fits n (omega (arith, h));
    new = λ q. by_test (id == q)
        (λ e.
        let is : id ≡ q = eqb-true id q e in
        let own : pair_of (with_pair id old bs) q ≡ old = ap (λ (k : ℕ). pair_of (with_pair id old bs) k) (sym is) ∙ with_own id old bs rise_b in
        ap (λ (k : ℕ). pair_of (with_pair id new ns) k) (sym is) ∙ with_own id new ns rise_n ∙ sym same ∙ sym own
        ∙ sym (after_under (id + 1) ds q (pair_of (with_pair id old bs) q) (rise_of (id + 1) bs ds from.fit) (omega (arith, is))))
        (λ e. behind q e);
  }

-- the changes so far and the difference of what is left are the difference of all
pub record Continues (before now : Pairs) (cs : List PairChange) (n : ℕ) (bs ns : Pairs) : Type 0 where
  pub rise_before : RiseFrom n bs
  pub rise_now : RiseFrom n ns
  pub whole : (ds : List PairChange) → IsDifferenceFrom n bs ns ds → IsMemoryDifference before now (cs ++ ds)

pub at_first : (before now : Pairs) → RiseFrom 0 before → RiseFrom 0 now → Continues before now [] 0 before now
at_first before now rise_before rise_now = record {
  rise_before = rise_before;
  rise_now = rise_now;
  whole = λ ds from. record { fit = from.fit; new = from.new };
}

one_more : (cs ds : List PairChange) (c : PairChange) → cs ++ (c ∷ ds) ≡ (cs ++ c ∷ []) ++ ds
one_more [] ds c = refl
one_more (x ∷ cs) ds c = ap (λ (l : List PairChange). x ∷ l) (one_more cs ds c)

none_more : (cs : List PairChange) → cs ++ [] ≡ cs
none_more [] = refl
none_more (x ∷ cs) = ap (λ (l : List PairChange). x ∷ l) (none_more cs)

-- the first identifier that is left isn't below the bound
pub not_below : (n id : ℕ) (bs ns : Pairs) → RiseFrom n bs → RiseFrom n ns → (pair_of bs id ≡ None → pair_of ns id ≡ None → ⊥) → n ≤ id
not_below n id bs ns rise_b rise_n there =
    elim (cases_lt id n) [ inl h ↦ absurd (there (none_under n bs id rise_b h) (none_under n ns id rise_n h)) | inr h ↦ h ]

pub continues : (before now : Pairs) (cs next : List PairChange) (n : ℕ) (c : PairChange) (bs ns : Pairs) → Continues before now cs n (with_pair c.id c.old bs) (with_pair c.id c.new ns)
    → n ≤ c.id → RiseFrom (c.id + 1) bs → RiseFrom (c.id + 1) ns → Tells c cs next → Continues before now next (c.id + 1) bs ns
continues before now cs next n c bs ns going h rise_b rise_n (inl told) = record {
  rise_before = rise_b;
  rise_now = rise_n;
  whole = λ ds from. subst (λ (l : List PairChange). IsMemoryDifference before now (l ++ ds)) (sym told.1) (going.whole ds (same_of n c.id c.old c.new bs ns ds h rise_b rise_n from told.0));
}
continues before now cs next n c bs ns going h rise_b rise_n (inr told) = record {
  rise_before = rise_b;
  rise_now = rise_n;
  whole = λ ds from. subst (λ (l : List PairChange). IsMemoryDifference before now l) (one_more cs ds c ∙ ap (λ (l : List PairChange). l ++ ds) (sym told.1)) (going.whole (c ∷ ds) (more_of n c.id c.old c.new bs ns ds h rise_b rise_n from told.0));
}

-- the pass goes on behind the least identifier that is left
pub carried : (before now : Pairs) (cs next : List PairChange) (n id : ℕ) (c : PairChange) (all_b all_n bs ns : Pairs) → Continues before now cs n all_b all_n → (pair_of all_b id ≡ None → pair_of all_n id ≡ None → ⊥)
    → c.id ≡ id → all_b ≡ with_pair id c.old bs → all_n ≡ with_pair id c.new ns → RiseFrom (id + 1) bs → RiseFrom (id + 1) ns → Tells c cs next → Continues before now next (id + 1) bs ns
carried before now cs next n id c all_b all_n bs ns going there is old new rise_b rise_n told =
    let low : n ≤ id = not_below n id all_b all_n going.rise_before going.rise_now there in
    let from_b : all_b ≡ with_pair c.id c.old bs = old ∙ ap (λ (k : ℕ). with_pair k c.old bs) (sym is) in
    let from_n : all_n ≡ with_pair c.id c.new ns = new ∙ ap (λ (k : ℕ). with_pair k c.new ns) (sym is) in
    let at : Continues before now cs n (with_pair c.id c.old bs) (with_pair c.id c.new ns) = subst (λ (l : Pairs). Continues before now cs n l (with_pair c.id c.new ns)) from_b (subst (λ (l : Pairs). Continues before now cs n all_b l) from_n going) in
    subst (λ (k : ℕ). Continues before now next (k + 1) bs ns) is
    (continues before now cs next n c bs ns at (omega (arith, low, is)) (subst (λ (k : ℕ). RiseFrom (k + 1) bs) (sym is) rise_b) (subst (λ (k : ℕ). RiseFrom (k + 1) ns) (sym is) rise_n) told)

-- there is less left then
pub fewer_left : (id : ℕ) (old new : Option (ℕ × ℕ)) (all_b all_n bs ns : Pairs) → (pair_of all_b id ≡ None → pair_of all_n id ≡ None → ⊥) → all_b ≡ with_pair id old bs → all_n ≡ with_pair id new ns
    → RiseFrom (id + 1) bs → RiseFrom (id + 1) ns → length bs + length ns < length all_b + length all_n
fewer_left id None None all_b all_n bs ns there is_b is_n rise_b rise_n =
    absurd (there (ap (λ (l : Pairs). pair_of l id) is_b ∙ none_under (id + 1) bs id rise_b (omega arith)) (ap (λ (l : Pairs). pair_of l id) is_n ∙ none_under (id + 1) ns id rise_n (omega arith)))
fewer_left id None (Some b) all_b all_n bs ns there is_b is_n rise_b rise_n =
    let one : length all_b ≡ length bs = ap length is_b in
    let other : length all_n ≡ suc (length ns) = ap length is_n in
    omega (arith, one, other)
fewer_left id (Some a) None all_b all_n bs ns there is_b is_n rise_b rise_n =
    let one : length all_b ≡ suc (length bs) = ap length is_b in
    let other : length all_n ≡ length ns = ap length is_n in
    omega (arith, one, other)
fewer_left id (Some a) (Some b) all_b all_n bs ns there is_b is_n rise_b rise_n =
    let one : length all_b ≡ suc (length bs) = ap length is_b in
    let other : length all_n ≡ suc (length ns) = ap length is_n in
    omega (arith, one, other)

-- nothing is left
pub at_last : (before now : Pairs) (cs : List PairChange) (n : ℕ) (bs ns : Pairs) → Continues before now cs n bs ns → bs ≡ [] → ns ≡ [] → IsMemoryDifference before now cs
at_last before now cs n bs ns going none_b none_n =
    let pairs : (q : ℕ) → pair_of ns q ≡ pair_of bs q = λ q. ap (λ (l : Pairs). pair_of l q) (none_n ∙ sym none_b) in
    subst (λ (l : List PairChange). IsMemoryDifference before now l) (none_more cs) (going.whole [] (record { fit = tt; new = pairs }))
