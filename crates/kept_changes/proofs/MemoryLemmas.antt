-- Changes of memories that lead back, one number after the other.
use Rattle.std.proofs.Common.{◌≡◌, ℕ, ◌≤◌, ◌==◌, List, [], ◌∷◌, ◌++◌, length, inl, inr, is_some, if◌then◌else◌, Option, Some, None, Result, Ok, Err, OnOk, ap, sym, ◌∙◌, subst, arith}
use Rattle.std.proofs.lemmas.Bool.{eqb-true, ne_eqb}
use Rattle.id_memory.specs.Pairs.{Pairs}
use Rattle.id_memory.specs.States.{MemoryState}
use Rattle.version_graph.specs.Sets.{In}
use Rattle.op_law.proofs.OnlyLaws.{by_test}
use Rattle.pair_changes.specs.declared.change.PairChange.{PairChange}
use Rattle.pair_changes.specs.Undo.{PairsFit, PairsLeadBack, puts}
use Rattle.version_model.specs.Kept.{pairs_at, numbers_in}
use Rattle.version_model.specs.declared.numbered.Numbered.{Numbered}
use Rattle.kept_changes.specs.Room.{memory_room_at}
use Rattle.kept_changes.specs.Undo.{MemoriesLeadBack, MemoryLeadsBackAt}
use Rattle.kept_changes.specs.inner.Calls.{OtherMemoriesStay}
use Rattle.kept_changes.proofs.BackLemmas.{unlisted_last}
use Rattle.kept_changes.proofs.StepLemmas.{distinct_before, each_other, each_split, last_apart}

pub memory_same : (before now next : Pairs) (room more : ℕ) (back : List PairChange) → now ≡ next → room ≡ more → PairsLeadBack before now room back → PairsLeadBack before next more back
memory_same before now next room more back e f h = subst (λ (n : ℕ). PairsLeadBack before next n back) f (subst (λ (pairs : Pairs). PairsLeadBack before pairs room back) e h)

-- the changes that come last lead back first
pub memories_lead_more : (before now next : List (Numbered MemoryState)) (i : Numbered (List PairChange)) (back : List (Numbered (List PairChange))) → MemoriesLeadBack before now back → (In i.number (numbers_in back) → ⊥)
    → numbers_in next ≡ numbers_in now → MemoryLeadsBackAt now next i → OtherMemoriesStay i.number now next → MemoriesLeadBack before next (i ∷ back)
memories_lead_more before now next i back led out same leads stay = record {
  listed = same ∙ led.listed;
  distinct = (out, led.distinct);
  changes = (
    (leads.0, subst (λ (pairs : Pairs). PairsLeadBack pairs (pairs_at next i.number) (memory_room_at next i.number) i.value) (led.others i.number out) leads.1),
    each_other (λ c. MemoryLeadsBackAt before now c) (λ c. MemoryLeadsBackAt before next c) i.number
        (λ c other h. (
          subst (λ (ns : List ℕ). In c.number ns) (sym same) h.0,
          memory_same (pairs_at before c.number) (pairs_at now c.number) (pairs_at next c.number) (memory_room_at now c.number) (memory_room_at next c.number) c.value (sym (stay c.number other).0) (sym (stay c.number other).1) h.1,
        )) back out led.changes,
  );
  others = λ n apart. (stay n (ne_eqb n i.number (λ e. apart (inl e)))).0 ∙ led.others n (λ j. apart (inr j));
}

-- once they are taken back, those before them lead back
pub memories_lead_less : (before now next : List (Numbered MemoryState)) (back : List (Numbered (List PairChange))) (i : Numbered (List PairChange)) → MemoriesLeadBack before now (back ++ i ∷ [])
    → numbers_in next ≡ numbers_in now → pairs_at next i.number ≡ pairs_at before i.number → OtherMemoriesStay i.number now next → MemoriesLeadBack before next back
memories_lead_less before now next back i led same restored stay =
    let out = last_apart back i led.distinct in
    record {
      listed = same ∙ led.listed;
      distinct = distinct_before back i led.distinct;
      changes =
          each_other (λ c. MemoryLeadsBackAt before now c) (λ c. MemoryLeadsBackAt before next c) i.number
          (λ c other h. (
            subst (λ (ns : List ℕ). In c.number ns) (sym same) h.0,
            memory_same (pairs_at before c.number) (pairs_at now c.number) (pairs_at next c.number) (memory_room_at now c.number) (memory_room_at next c.number) c.value (sym (stay c.number other).0) (sym (stay c.number other).1) h.1,
          )) back out (each_split (λ c. MemoryLeadsBackAt before now c) back i led.changes).0;
      others = λ n apart.
          by_test (n == i.number)
          (λ e. let here = eqb-true n i.number e in ap (λ (m : ℕ). pairs_at next m) here ∙ restored ∙ ap (λ (m : ℕ). pairs_at before m) (sym here))
          (λ e. (stay n e).0 ∙ led.others n (unlisted_last back i n e apart));
    }

-- what leads back last
pub memory_leads_last : (before now : List (Numbered MemoryState)) (back : List (Numbered (List PairChange))) (i : Numbered (List PairChange)) → MemoriesLeadBack before now (back ++ i ∷ []) → MemoryLeadsBackAt before now i
memory_leads_last before now back i led = (each_split (λ c. MemoryLeadsBackAt before now c) back i led.changes).1

-- ---- room

at_most_one : (pair : Option (ℕ × ℕ)) → (if is_some pair then 1 else 0) ≤ 1
at_most_one None = omega arith
at_most_one (Some pair) = omega arith

puts_within : (cs : List PairChange) → puts cs ≤ length cs
puts_within [] = omega arith
puts_within (c ∷ cs) = omega (arith, at_most_one c.new, puts_within cs)

-- room for one pair a change is enough
enough : (room : ℕ) (cs : List PairChange) → length cs ≤ room → PairsFit room cs
enough room cs h = omega (arith, h, puts_within cs)

-- room stays where it grows
pub fit_more : (room more : ℕ) (cs : List PairChange) → room ≤ more → PairsFit room cs → PairsFit more cs
fit_more room more cs h fit = omega (arith, h, fit)

pub enough_ok : {E : Type 0} (made : Result (Unit {0}) E) (more room : ℕ) (cs : List PairChange) → more ≡ length cs → OnOk made (more ≤ room) → OnOk made (PairsFit room cs)
enough_ok (Ok done) more room cs is h = enough room cs (omega (arith, is, h))
enough_ok (Err e) more room cs is h = tt
