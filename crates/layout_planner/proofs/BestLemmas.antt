-- The first of least cost.
use Rattle.std.specs.Prelude.{◌<◌, ◌==◌, nat_le, Option, Some, None, slice_get, slice_index, MatchOption, find}
use Rattle.std.specs.Option.{option_and_then}
use Rattle.std.proofs.Common.{◌≡◌, ℕ, ◌+◌, ◌≤◌, List, [], ◌∷◌, Bool, true, false, length, get_or, suc, zero, refl, sym, ap, ◌∙◌, subst, arith, inl, inr}
use Rattle.std.proofs.lemmas.Bool.{cond-false, cond-true, false_from_ne_true}
use Rattle.std.proofs.lemmas.Bool.Decides.{nat_tests}
use Rattle.std.proofs.lemmas.List.{get_or-map, length-map}
use Rattle.version_graph.specs.Sets.{In}
use Rattle.layout_rules.proofs.LookupLaws.{all_at, all_true}
use Rattle.layout_rules.proofs.PassLaws.{got_in}
use Rattle.layout_planner.specs.Best.{IsBest, best, is_least, numbers_of}
use Rattle.layout_planner.specs.declared.planning.VersionCost.{VersionCost}

-- ---- the loop

-- the first of least cost among so many first ones
pub record Leads (costs : List ℕ) (count at cost : ℕ) : Type 0 where
  pub within : at < length costs
  pub value : cost ≡ slice_index costs at
  pub least : (k : ℕ) → k < count → cost ≤ slice_index costs k
  pub first : (k : ℕ) → k < at → cost < slice_index costs k
  pub before : at ≤ count

both : (costs : List ℕ) (count least here : ℕ) → ((k : ℕ) → k < count → least ≤ slice_index costs k) → here ≡ slice_index costs count → least ≤ here → (k : ℕ) → k < count + 1 → least ≤ slice_index costs k
both costs count least here below is less k h = elim (count == k) as (λ b. (count == k) ≡ b → least ≤ slice_index costs k) [
  | true ↦ λ same. (let at : count ≡ k = grind (arith, nat_tests) in subst (λ (j : ℕ). least ≤ slice_index costs j) at (let e = is in omega arith))
  | false ↦ λ other. below k (let differs : k < count = grind (arith, nat_tests) in differs)
] refl

pub leads_new : (costs : List ℕ) (count at least here : ℕ) → Leads costs count at least → count < length costs → here ≡ slice_index costs count → here < least → Leads costs (count + 1) count here
leads_new costs count at least here leads within is less = record {
  within = within;
  value = is;
  least = both costs count here here (λ k h. (let old = leads.least k h in omega arith)) is (omega arith);
  first = λ k h. (let old = leads.least k h in omega arith);
  before = omega arith;
}

pub leads_old : (costs : List ℕ) (count at least here : ℕ) → Leads costs count at least → here ≡ slice_index costs count → least ≤ here → Leads costs (count + 1) at least
leads_old costs count at least here leads is more = record {
  within = leads.within;
  value = leads.value;
  least = both costs count least here leads.least is more;
  first = leads.first;
  before = (let old = leads.before in omega arith);
}

-- the cost at a place
pub cost_read : (costs : List VersionCost) (i : ℕ) (c : VersionCost) → i < length costs → c ≡ get_or costs i c → c.cost ≡ slice_index (numbers_of costs) i
cost_read costs i c within is = ap (λ (x : VersionCost). x.cost) is ∙ sym (get_or-map (λ (x : VersionCost). x.cost) costs i c 0 within)

cost_got : (costs : List VersionCost) (i : ℕ) (c : VersionCost) → slice_get costs i ≡ Some c → slice_index (numbers_of costs) i ≡ c.cost
cost_got [] i c got = absurd (let clash : ⊥ = cc in clash)
cost_got (x ∷ costs) zero c got = ap (λ (y : VersionCost). y.cost) (let same : x ≡ c = cc in same)
cost_got (x ∷ costs) (suc i) c got = cost_got costs i c got

-- ---- the version

place_in : (x : VersionCost) (xs : List VersionCost) → In x xs → (k : ℕ) × (k < length xs) × (slice_get xs k ≡ Some x)
place_in x [] i = absurd i
place_in x (y ∷ ys) (inl same) = (zero, omega arith, ap (λ (z : VersionCost). Some z) (sym same))
place_in x (y ∷ ys) (inr i) = let m = place_in x ys i in let less = m.1 in (suc m.0, omega arith, m.2)

first_found : (test : VersionCost → Bool) (xs : List VersionCost) (at : ℕ) (x : VersionCost) → slice_get xs at ≡ Some x → test x ≡ true → ((k : ℕ) (y : VersionCost) → k < at → slice_get xs k ≡ Some y → test y ≡ false) → find test xs ≡ Some x
first_found test [] at x got is fails = absurd (let clash : ⊥ = cc in clash)
first_found test (y ∷ ys) zero x got is fails =
    let same : y ≡ x = cc in
    cond-true (test y) (Some y) (find test ys) (ap test same ∙ is) ∙ ap (λ (z : VersionCost). Some z) same
first_found test (y ∷ ys) (suc at) x got is fails =
    cond-false (test y) (Some y) (find test ys) (fails zero y (omega arith) refl) ∙ first_found test ys at x got is (λ k z h. fails (suc k) z (omega arith))

module _ (costs : List VersionCost) (at : ℕ) (is : IsBest (numbers_of costs) at) (c : VersionCost) (got : slice_get costs at ≡ Some c) where
  passes : is_least costs c ≡ true
  passes =
      all_true (λ (d : VersionCost). nat_le c.cost d.cost) costs (λ d i.
      let m = place_in d costs i in
      let least = is.least m.0 (let many = length-map costs (λ (x : VersionCost). x.cost) in let less = m.1 in omega (arith, many)) in
      let mine = cost_got costs at c got in
      let its = cost_got costs m.0 d m.2 in
      let less : c.cost ≤ d.cost = omega arith in
      grind (arith, nat_tests))

  earlier : (k : ℕ) (y : VersionCost) → k < at → slice_get costs k ≡ Some y → is_least costs y ≡ false
  earlier k y h there =
      false_from_ne_true (is_least costs y) (λ all.
      let test = all_at (λ (d : VersionCost). nat_le y.cost d.cost) costs all c (got_in costs at c (sym got)) in
      let first = is.first k h in
      let mine = cost_got costs at c got in
      let its = cost_got costs k y there in
      let least : y.cost ≤ c.cost = grind (arith, nat_tests) in
      omega arith)

  found : find (is_least costs) costs ≡ Some c
  found = first_found (is_least costs) costs at c got passes earlier

-- a place within a list has an item
not_past : (xs : List VersionCost) (i : ℕ) → i < length xs → slice_get xs i ≡ None → ⊥
not_past [] i h none = omega arith
not_past (x ∷ xs) zero h none = cc
not_past (x ∷ xs) (suc i) h none = not_past xs i (omega arith) none

pub best_is : (costs : List VersionCost) (result : Option ℕ) → MatchOption result (costs ≡ []) (λ at. IsBest (numbers_of costs) at) → option_and_then (slice_get costs) result ≡ best costs
best_is costs None none = sym (ap best none)
best_is costs (Some at) is = here (slice_get costs at) refl
  where
    here : (o : Option VersionCost) → slice_get costs at ≡ o → slice_get costs at ≡ best costs
    here None got = absurd (let within = is.within in let many = length-map costs (λ (x : VersionCost). x.cost) in not_past costs at (omega (arith, many)) got)
    here (Some c) got = got ∙ sym (found costs at is c got)
