-- Pairs that are put into a memory, one after the other.
use Rattle.std.proofs.Common.{◌≡◌, ℕ, ◌+◌, ◌≤◌, ◌==◌, List, [], ◌∷◌, if◌then◌else◌, Option, Some, None, refl, ap, sym, ◌∙◌, arith}
use Rattle.std.proofs.lemmas.Bool.{eq-eqb, eqb-true}
use Rattle.par_base.proofs.TestLaws.{apart_below}
use Rattle.id_memory.specs.Laws.{OtherWay}
use Rattle.id_memory.specs.Pairs.{Pairs, RiseFrom, IsOneToOne, IsWith, pair_of, id_of}
use Rattle.pair_changes.specs.declared.change.PairChange.{PairChange}
use Rattle.pair_changes.specs.MemoryChanges.{pair_after}
use Rattle.pair_changes.specs.inner.Calls.{AreOut, CanBePut, ChangesRise, pair_without}
use Rattle.pair_changes.proofs.ChangedLaws.{by_test}
use Rattle.pair_changes.proofs.DifferLemmas.{after_under}

no_id_by : (found : Option ℕ) → ((p : ℕ) → found ≡ Some p → ⊥) → found ≡ None
no_id_by None none = refl
no_id_by (Some p) none = absurd (none p refl)

-- a pair that no identifier has, has none
pub no_id : OtherWay → (es : Pairs) → RiseFrom 0 es → IsOneToOne es → (s t : ℕ) → ((p : ℕ) → pair_of es p ≡ Some (s, t) → ⊥) → id_of es s t ≡ None
no_id way es rise one s t none = no_id_by (id_of es s t) (λ p is. none p ((way es rise one p s t).0 is))

-- what has a pair isn't named by changes whose identifiers have none
after_out : (es : Pairs) (ds : List PairChange) (p : ℕ) (pair : ℕ × ℕ) → AreOut es ds → pair_of es p ≡ Some pair → (now : Option (ℕ × ℕ)) → pair_after ds p now ≡ now
after_out es [] p pair out has now = refl
after_out es (d ∷ ds) p pair out has now =
    by_test (d.id == p)
    (λ e. let some : pair_of es d.id ≡ Some pair = ap (λ (k : ℕ). pair_of es k) (eqb-true d.id p e) ∙ has in absurd (let no : ⊥ = cc in no))
    (λ e. rw e (after_out es ds p pair out.1 has now))

same_id : (a b : ℕ) (o : Option ℕ) → o ≡ Some a → o ≡ Some b → a ≡ b
same_id a b o e f = cc

-- a pair that is put in has no identifier before
pub other_pairs : OtherWay → (es : Pairs) (c : PairChange) (ds : List PairChange) (now : Pairs) → CanBePut es (c ∷ ds) now → (p : ℕ) (pair : ℕ × ℕ) → c.new ≡ Some pair → pair_of es p ≡ Some pair → ⊥
other_pairs way es c ds now can p pair new has =
    let own = eq-eqb c.id c.id refl in
    let first : pair_after (c ∷ ds) c.id (pair_of es c.id) ≡ c.new = rw own refl in
    let here : pair_of now c.id ≡ Some pair = can.pairs c.id ∙ first ∙ new in
    let there : pair_of now p ≡ Some pair = can.pairs p ∙ after_out es (c ∷ ds) p pair can.out has (pair_of es p) ∙ has in
    let a : id_of now pair.0 pair.1 ≡ Some c.id = (way now can.rises can.one c.id pair.0 pair.1).1 here in
    let b : id_of now pair.0 pair.1 ≡ Some p = (way now can.rises can.one p pair.0 pair.1).1 there in
    let same : p ≡ c.id = same_id p c.id (id_of now pair.0 pair.1) b a in
    let some : pair_of es c.id ≡ Some pair = ap (λ (k : ℕ). pair_of es k) (sym same) ∙ has in
    let none : pair_of es c.id ≡ None = can.out.0 in
    let no : ⊥ = cc in no

out_stays : (n : ℕ) (es next : Pairs) (ds : List PairChange) → ChangesRise n ds → ((q : ℕ) → n ≤ q → pair_of next q ≡ pair_of es q) → AreOut es ds → AreOut next ds
out_stays n es next [] rise same out = tt
out_stays n es next (d ∷ ds) rise same out = (same d.id rise.0 ∙ out.0, out_stays (d.id + 1) es next ds rise.1 (λ q h. same q (omega (arith, h, rise.0))) out.1)

module _ (es next : Pairs) (c : PairChange) (ds : List PairChange) (rise : ChangesRise (c.id + 1) ds) (with : IsWith es c.id c.new next) where
  -- the changes that are left make the same of it
  pub after_put : (q : ℕ) → pair_after ds q (pair_of next q) ≡ pair_after (c ∷ ds) q (pair_of es q)
  after_put q =
      by_test (c.id == q)
      (λ e.
      let here : pair_of next q ≡ c.new = with.pairs q ∙ ap (λ (b : _). if b then c.new else pair_of es q) e in
      rw e (after_under (c.id + 1) ds q (pair_of next q) rise (omega (arith, eqb-true c.id q e)) ∙ here))
      (λ e.
      let here : pair_of next q ≡ pair_of es q = with.pairs q ∙ ap (λ (b : _). if b then c.new else pair_of es q) e in
      rw e (ap (λ (pair : Option (ℕ × ℕ)). pair_after ds q pair) here))

  -- and can be put in still
  pub can_less : (now : Pairs) → CanBePut es (c ∷ ds) now → CanBePut next ds now
  can_less now can = record {
    rises = can.rises;
    one = can.one;
    out = out_stays (c.id + 1) es next ds rise (λ q h. with.pairs q ∙ ap (λ (b : _). if b then c.new else pair_of es q) (apart_below c.id q (omega (arith, h)))) can.out.1;
    pairs = λ q. can.pairs q ∙ sym (after_put q);
  }

-- ---- once all old pairs are out

pub after_without : (cs : List PairChange) (q : ℕ) (pair : Option (ℕ × ℕ)) → pair_after cs q (pair_without cs q pair) ≡ pair_after cs q pair
after_without [] q pair = refl
after_without (c ∷ cs) q pair = by_test (c.id == q) (λ e. rw e refl) (λ e. rw e (after_without cs q pair))

-- none of their identifiers has a pair
pub all_out : (n : ℕ) (bs mid : Pairs) (cs : List PairChange) → ChangesRise n cs → ((q : ℕ) → n ≤ q → pair_of mid q ≡ pair_without cs q (pair_of bs q)) → AreOut mid cs
all_out n bs mid [] rise pairs = tt
all_out n bs mid (c ∷ cs) rise pairs =
    let own = eq-eqb c.id c.id refl in
    let first : pair_without (c ∷ cs) c.id (pair_of bs c.id) ≡ None = rw own refl in (
      pairs c.id rise.0 ∙ first,
      all_out (c.id + 1) bs mid cs rise.1
          (λ q h.
          let other = apart_below c.id q (omega (arith, h)) in
          let behind : pair_without (c ∷ cs) q (pair_of bs q) ≡ pair_without cs q (pair_of bs q) = rw other refl in
          pairs q (omega (arith, h, rise.0)) ∙ behind),
    )
