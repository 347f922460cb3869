-- Pairs that are taken out of a memory, the last ones first.
use Rattle.std.proofs.Common.{◌≡◌, ℕ, zero, suc, ◌+◌, ◌<◌, ◌≤◌, ◌==◌, List, [], ◌∷◌, length, drop, slice_index_or, if◌then◌else◌, Option, None, is_some, refl, ap, sym, ◌∙◌, subst, arith}
use Rattle.par_base.proofs.TestLaws.{apart_above}
use Rattle.id_memory.specs.Pairs.{Pairs, IsWith, pair_of}
use Rattle.pair_changes.specs.declared.change.PairChange.{PairChange}
use Rattle.pair_changes.specs.MemoryChanges.{ArePairChanges}
use Rattle.pair_changes.specs.Undo.{takes}
use Rattle.pair_changes.specs.inner.Calls.{ChangesRise, pair_without}
use Rattle.pair_changes.proofs.DifferLemmas.{rise_of}

-- the item at a place, and those behind it
pub drop_at : {X : Type 0} (xs : List X) (k : ℕ) (d : X) → k < length xs → drop k xs ≡ slice_index_or xs k d ∷ drop (suc k) xs
drop_at [] k d h = absurd (omega arith)
drop_at (x ∷ xs) zero d h = refl
drop_at (x ∷ xs) (suc k) d h = drop_at xs k d (omega arith)

-- the change at a place has the old pair, and those behind it have greater identifiers
pub fit_at : (n : ℕ) (bs : Pairs) (cs : List PairChange) (k : ℕ) (d : PairChange) → k < length cs → ArePairChanges n bs cs
    → ((slice_index_or cs k d).old ≡ pair_of bs (slice_index_or cs k d).id) × ChangesRise ((slice_index_or cs k d).id + 1) (drop (suc k) cs)
fit_at n bs [] k d h fit = absurd (omega arith)
fit_at n bs (c ∷ cs) zero d h fit = (fit.1, rise_of (c.id + 1) bs cs fit.3)
fit_at n bs (c ∷ cs) (suc k) d h fit = fit_at (c.id + 1) bs cs k d (omega arith) fit.3

without_under : (n : ℕ) (cs : List PairChange) (q : ℕ) (pair : Option (ℕ × ℕ)) → ChangesRise n cs → q < n → pair_without cs q pair ≡ pair
without_under n [] q pair rise h = refl
without_under n (c ∷ cs) q pair rise h =
    let other = apart_above c.id q (omega (arith, h, rise.0)) in
    rw other (without_under (c.id + 1) cs q pair rise.1 (omega (arith, h, rise.0)))

-- one more is taken out
module _ (bs mid next : Pairs) (all : List PairChange) (k : ℕ) (d : PairChange) (inside : k < length all) (fit : ArePairChanges 0 bs all)
    (pairs : (q : ℕ) → pair_of mid q ≡ pair_without (drop (suc k) all) q (pair_of bs q)) where
  abbrev c : PairChange
  c = slice_index_or all k d

  at_place : (c.old ≡ pair_of bs c.id) × ChangesRise (c.id + 1) (drop (suc k) all)
  at_place = fit_at 0 bs all k d inside fit

  pub pair_there : pair_of mid c.id ≡ c.old
  pair_there = pairs c.id ∙ without_under (c.id + 1) (drop (suc k) all) c.id (pair_of bs c.id) at_place.1 (omega arith) ∙ sym at_place.0

  pub pairs_less : IsWith mid c.id None next → (q : ℕ) → pair_of next q ≡ pair_without (drop k all) q (pair_of bs q)
  pairs_less with q = with.pairs q ∙ ap (λ (pair : Option (ℕ × ℕ)). if c.id == q then None else pair) (pairs q) ∙ sym (ap (λ (cs : List PairChange). pair_without cs q (pair_of bs q)) (drop_at all k d inside))

  pub room_less : (room more few : ℕ) → more + length next ≡ few + length mid → length next + (if is_some (pair_of mid c.id) then 1 else 0) ≡ length mid → few ≡ room + takes (drop (suc k) all) → more ≡ room + takes (drop k all)
  room_less room more few rooms less was =
      let one : length next + (if is_some c.old then 1 else 0) ≡ length mid = subst (λ (pair : Option (ℕ × ℕ)). length next + (if is_some pair then 1 else 0) ≡ length mid) pair_there less in
      let all_of : takes (drop k all) ≡ (if is_some c.old then 1 else 0) + takes (drop (suc k) all) = ap takes (drop_at all k d inside) in
      omega (arith, rooms, one, was, all_of)
