-- Changes that lead from one memory to another make it, and those of several memories.
use Rattle.std.proofs.Common.{◌≡◌, ℕ, ◌+◌, ◌<◌, ◌==◌, List, [], ◌∷◌, true, Option, Some, None, refl, sym, ap, ◌∙◌, subst, arith}
use Rattle.std.proofs.lemmas.Bool.Decides.{nat_tests}
use Rattle.std.proofs.lemmas.Bool.{cases_order, cases_lt, eq-eqb}
use mathlib.Core.Logic.{inl, inr}
use Rattle.par_base.proofs.TestLaws.{apart_below}
use Rattle.id_memory.specs.Pairs.{Pairs, RiseFrom, pair_of}
use Rattle.pair_changes.specs.declared.change.PairChange.{PairChange}
use Rattle.pair_changes.specs.Changed.{PairsLeadTo, changed_pairs}
use Rattle.pair_changes.proofs.ChangedLaws.{difference_makes, none_under}
use Rattle.id_memory.specs.States.{MemoryState}
use Rattle.version_model.specs.declared.numbered.Numbered.{Numbered}
use Rattle.write_plans.specs.Calls.{AreMemoryChangesNow}

-- the pair of an entry, and a pair of two numbers
abbrev pair_in : ℕ × ℕ × ℕ → Option (ℕ × ℕ)
pair_in e = Some (e.1, e.2)

abbrev some_pair : ℕ → ℕ → Option (ℕ × ℕ)
some_pair s t = Some (s, t)

-- an entry from its parts
entry : (e : ℕ × ℕ × ℕ) (p s t : ℕ) → e.0 ≡ p → pair_in e ≡ some_pair s t → e ≡ (p, s, t)
entry e p s t same pair =
    let parts : ◌≡◌ {A = ℕ × ℕ} (e.1, e.2) (s, t) = cc in
    ap (λ (k : ℕ). (k, e.1, e.2)) same ∙ ap (λ (k : ℕ × ℕ). (p, k.0, k.1)) parts

-- memories that rise and have the same at each identifier are one
one_memory : (n : ℕ) (s t : Pairs) → RiseFrom n s → RiseFrom n t → ((p : ℕ) → pair_of s p ≡ pair_of t p) → s ≡ t
one_memory n [] [] rise_s rise_t same = refl
one_memory n [] (e ∷ es) rise_s rise_t same =
    let own = eq-eqb e.0 e.0 refl in
    let is : None ≡ pair_in e = rw own at (same e.0) in
    cc
one_memory n (e ∷ es) [] rise_s rise_t same =
    let own = eq-eqb e.0 e.0 refl in
    let is : pair_in e ≡ None = rw own at (same e.0) in
    cc
one_memory n (a ∷ xs) (b ∷ ys) rise_s rise_t same =
    let apart : (p q : ℕ × ℕ × ℕ) (ps qs : Pairs) → p.0 < q.0 → RiseFrom (q.0 + 1) qs → pair_of (p ∷ ps) p.0 ≡ pair_of (q ∷ qs) p.0 → ⊥ =
    λ p q ps qs h rise e.
    let own = eq-eqb p.0 p.0 refl in
    let some : pair_in p ≡ pair_of (q ∷ qs) p.0 = rw own at e in
    let none = none_under q.0 (q ∷ qs) p.0 (omega arith, rise) h in
    cc in
    elim (cases_order a.0 b.0) [
      | inl e ↦
          let own_a = eq-eqb a.0 a.0 refl in
          let own_b : (b.0 == a.0) ≡ true = grind (arith, nat_tests) in
          let some : pair_in a ≡ some_pair b.1 b.2 = rw (own_a, own_b) at (same a.0) in
          let tail : xs ≡ ys = one_memory (a.0 + 1) xs ys rise_s.1 (subst (λ (k : ℕ). RiseFrom (k + 1) ys) (sym e) rise_t.1)
          (λ p. elim (cases_lt a.0 p) [
            | inl h ↦
                let not_a = apart_below a.0 p h in
                let not_b = apart_below b.0 p (omega arith) in
                rw (not_a, not_b) at (same p)
            | inr h ↦ none_under (a.0 + 1) xs p rise_s.1 (omega arith) ∙ sym (none_under (b.0 + 1) ys p rise_t.1 (omega arith))
          ]) in
          let head : ◌≡◌ {A = ℕ × ℕ × ℕ} a (b.0, b.1, b.2) = entry a b.0 b.1 b.2 e some in
          cc
      | inr (inl h) ↦ absurd (apart a b xs ys h rise_t.1 (same a.0))
      | inr (inr h) ↦ absurd (apart b a ys xs h rise_s.1 (sym (same b.0)))
    ]

-- WHAT LEADS FROM A MEMORY THAT RISES MAKES THE OTHER
pub lead_makes : (before now : Pairs) (cs : List PairChange) → RiseFrom 0 before → PairsLeadTo before now cs → changed_pairs before cs ≡ now
lead_makes before now cs rise lead = difference_makes (one_memory 0) before now cs rise lead.rises lead.difference

-- the changes of several memories, as they were handed on
pub memories_are : (kept kept_now made made_now : List (Numbered MemoryState)) (ns ns_now : List ℕ) (items : List (Numbered (List PairChange))) → kept_now ≡ kept → made_now ≡ made → ns_now ≡ ns
    → AreMemoryChangesNow kept_now made_now ns_now items → AreMemoryChangesNow kept made ns items
memories_are kept kept_now made made_now ns ns_now items a b c are =
    subst (λ (l : List ℕ). AreMemoryChangesNow kept made l items) c
    (subst (λ (l : List (Numbered MemoryState)). AreMemoryChangesNow kept l ns_now items) b
    (subst (λ (l : List (Numbered MemoryState)). AreMemoryChangesNow l made_now ns_now items) a are))
