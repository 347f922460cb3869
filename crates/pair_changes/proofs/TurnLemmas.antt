-- Changes the other way round.
use Rattle.std.proofs.Common.{◌≡◌, ℕ, zero, suc, length, slice_index_or, slice_set, ◌+◌, ◌<◌, ◌≤◌, ◌==◌, List, [], ◌∷◌, if◌then◌else◌, Option, is_some, refl, ap, sym, ◌∙◌, arith}
use Rattle.std.proofs.lemmas.Bool.{eq-eqb, eqb-true}
use Rattle.par_base.proofs.TestLaws.{apart_below}
use Rattle.id_memory.specs.Pairs.{Pairs, RiseFrom, IsOneToOne, pair_of}
use Rattle.pair_changes.specs.declared.change.PairChange.{PairChange}
use Rattle.pair_changes.specs.MemoryChanges.{ArePairChanges, pair_after}
use Rattle.pair_changes.specs.Undo.{PairsLeadBack, puts, turned_changes, takes, turned}
use Rattle.pair_changes.proofs.ChangedLaws.{by_test}

fit_turned : (n : ℕ) (before now : Pairs) (cs : List PairChange) → ArePairChanges n before cs → ((q : ℕ) → n ≤ q → pair_of now q ≡ pair_after cs q (pair_of before q)) → ArePairChanges n now (turned_changes cs)
fit_turned n before now [] fit is = tt
fit_turned n before now (c ∷ cs) fit is =
    let own = eq-eqb c.id c.id refl in
    let first : pair_after (c ∷ cs) c.id (pair_of before c.id) ≡ c.new = rw own refl in (
      fit.0,
      sym (is c.id fit.0 ∙ first),
      λ e. fit.2 (sym e),
      fit_turned (c.id + 1) before now cs fit.3
          (λ q h.
          let other = apart_below c.id q (omega (arith, h)) in
          let behind : pair_after (c ∷ cs) q (pair_of before q) ≡ pair_after cs q (pair_of before q) = rw other refl in
          is q (omega (arith, h, fit.0)) ∙ behind),
    )

back_again : (n : ℕ) (before : Pairs) (cs : List PairChange) (q : ℕ) → ArePairChanges n before cs → pair_of before q ≡ pair_after (turned_changes cs) q (pair_after cs q (pair_of before q))
back_again n before [] q fit = refl
back_again n before (c ∷ cs) q fit =
    by_test (c.id == q)
    (λ e. rw e (ap (λ (k : ℕ). pair_of before k) (sym (eqb-true c.id q e)) ∙ sym fit.1))
    (λ e. rw e (back_again (c.id + 1) before cs q fit.3))

puts_turned : (cs : List PairChange) → puts (turned_changes cs) ≡ takes cs
puts_turned [] = refl
puts_turned (c ∷ cs) = ap (λ (n : ℕ). (if is_some c.old then 1 else 0) + n) (puts_turned cs)

takes_turned : (cs : List PairChange) → takes (turned_changes cs) ≡ puts cs
takes_turned [] = refl
takes_turned (c ∷ cs) = ap (λ (n : ℕ). (if is_some c.new then 1 else 0) + n) (takes_turned cs)

-- THE WAY BACK
pub turned_back : (before now : Pairs) (room more : ℕ) (cs : List PairChange) → RiseFrom 0 before → IsOneToOne before → ArePairChanges 0 before cs → ((q : ℕ) → pair_of now q ≡ pair_after cs q (pair_of before q))
    → more + puts cs ≡ room + takes cs → PairsLeadBack before now more (turned_changes cs)
turned_back before now room more cs rise one fit is rooms = record {
  lead = record {
    rises = rise;
    one = one;
    difference = record {
      fit = fit_turned 0 before now cs fit (λ q h. is q);
      new = λ q. back_again 0 before cs q fit ∙ ap (λ (pair : Option (ℕ × ℕ)). pair_after (turned_changes cs) q pair) (sym (is q));
    };
  };
  room = omega (arith, rooms, puts_turned cs, takes_turned cs);
}

-- the first changes are turned, and the others are as they were
abbrev pub AreTurned : ℕ → List PairChange → List PairChange → Type 0
AreTurned zero all made = made ≡ all
AreTurned (suc k) [] made = made ≡ []
AreTurned (suc k) (x ∷ xs) [] = ⊥
AreTurned (suc k) (x ∷ xs) (y ∷ ys) = (y ≡ turned x) × AreTurned k xs ys

turn_first : (x : PairChange) (xs made : List PairChange) (d new : PairChange) → made ≡ x ∷ xs → new ≡ turned (slice_index_or made zero d) → AreTurned (suc zero) (x ∷ xs) (slice_set made zero new)
turn_first x xs [] d new e is = cc
turn_first x xs (y ∷ ys) d new e is =
    let same : y ≡ x = cc in
    let rest : ys ≡ xs = cc in
    (is ∙ ap turned same, rest)

pub turn_more : (k : ℕ) (all made : List PairChange) (d new : PairChange) → k < length all → AreTurned k all made → new ≡ turned (slice_index_or made k d) → AreTurned (suc k) all (slice_set made k new)
turn_more k [] made d new h are is = absurd (omega (arith, h))
turn_more zero (x ∷ xs) made d new h are is = turn_first x xs made d new are is
turn_more (suc k) (x ∷ xs) [] d new h are is = absurd are
turn_more (suc k) (x ∷ xs) (y ∷ ys) d new h are is = (are.0, turn_more k xs ys d new (omega arith) are.1 is)

pub turn_end : (k : ℕ) (all made : List PairChange) → length all ≤ k → AreTurned k all made → made ≡ turned_changes all
turn_end zero [] made h are = are
turn_end (suc k) [] made h are = are
turn_end zero (x ∷ xs) made h are = absurd (omega (arith, h))
turn_end (suc k) (x ∷ xs) [] h are = absurd are
turn_end (suc k) (x ∷ xs) (y ∷ ys) h are =
    let rest : ys ≡ turned_changes xs = turn_end k xs ys (omega arith) are.1 in
    ap (λ (z : PairChange). z ∷ ys) are.0 ∙ ap (λ (l : List PairChange). turned x ∷ l) rest
