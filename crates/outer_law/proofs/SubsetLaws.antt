-- Entries of a memory that are kept: no test counts more of them, and one fewer where an entry isn't kept.
use Rattle.std.proofs.Common.{◌≡◌, ℕ, ◌+◌, ◌<◌, ◌≤◌, ◌==◌, List, [], ◌∷◌, count_by, Bool, true, cond, ◌&&◌, not, Option, Some, None, refl, ap, sym, ◌∙◌, subst, arith}
use Rattle.std.proofs.lemmas.Bool.{and_parts, and_from, eqb-true, eq-eqb, ne_eqb}
use Rattle.par_base.specs.declared.value.Value.{Value}
use Rattle.row_store.specs.Rows.{Rows, RiseFrom, row_of}
use Rattle.id_memory.specs.Pairs.{Pairs, RiseFrom as PairsRise, pair_of}
use Rattle.row_parts.specs.RowCells.{by_test}
use Rattle.pair_rows.specs.inner.Numbers.{count_cons}
use Rattle.pair_rows.specs.inner.PairLemmas.{count_yes, count_no, pairs_rise_more}
use Rattle.pair_rows.specs.inner.TakenPairs.{unchanged_pair}
use Rattle.pair_rows.specs.inner.FoundPairs.{AllPaired}
use Rattle.pair_rows.specs.Given.{unchanged, kept_entry, kept_in}
use Rattle.outer_law.proofs.CountingLaws.{count_two}

-- no entry is below rising ones
pub none_pair : (k : ℕ) (es : Pairs) (p : ℕ) → PairsRise k es → p < k → pair_of es p ≡ None
none_pair k [] p rise h = refl
none_pair k (e ∷ es) p rise h =
    let low = rise.0 in
    let other = ne_eqb e.0 p (λ q. absurd (omega (arith, q, low, h))) in
    rw other (none_pair (e.0 + 1) es p rise.1 (omega (arith, low, h)))

-- entries above an entry are found behind it
paired_drop : (e : ℕ × ℕ × ℕ) (es fs : Pairs) (k : ℕ) → e.0 < k → PairsRise k fs → AllPaired (e ∷ es) fs → AllPaired es fs
paired_drop e es [] k h rise all = tt
paired_drop e es (f ∷ fs) k h rise all =
    let low = rise.0 in
    let other = ne_eqb e.0 f.0 (λ q. absurd (omega (arith, q, low, h))) in
    let here : pair_of es f.0 ≡ Some (f.1, f.2) = rw other at all.0 in
    (here, paired_drop e es fs (f.0 + 1) (omega (arith, h, low)) rise.1 all.1)

-- an entry by its identifier
entry_is : (e : ℕ × ℕ × ℕ) (p a b : ℕ) → e.0 ≡ p → ◌≡◌ {A = Option (ℕ × ℕ)} (Some (e.1, e.2)) (Some (a, b)) → e ≡ (p, a, b)
entry_is e p a b id pairs =
    let pair : ◌≡◌ {A = ℕ × ℕ} (e.1, e.2) (a, b) = cc in
    ap (λ (i : ℕ). (i, e.1, e.2)) id ∙ ap (λ (k : ℕ × ℕ). (p, k.0, k.1)) pair

-- an entry of a pair
pub entry_counted : (f : ℕ × ℕ × ℕ → Bool) (m : Pairs) (p a b : ℕ) → pair_of m p ≡ Some (a, b) → f (p, a, b) ≡ true → 1 ≤ count_by (λ e. e.0 == p && f e) m
entry_counted f [] p a b at h = absurd (cc)
entry_counted f (e ∷ es) p a b at h =
    by_test (e.0 == p)
    (λ q.
    let same = entry_is e p a b (eqb-true e.0 p q) (rw q at at) in
    let yes = and_from (e.0 == p) (f e) q (ap f same ∙ h) in
    let more = count_yes (λ e. e.0 == p && f e) e es yes in
    omega (arith, more))
    (λ q.
    let later : pair_of es p ≡ Some (a, b) = rw q at at in
    let rest = entry_counted f es p a b later h in
    let all = count_cons (λ e. e.0 == p && f e) e es in
    omega (arith, rest, all))

-- a test counts no more of some entries
pub sub_count : (f : ℕ × ℕ × ℕ → Bool) (k : ℕ) (m es : Pairs) → PairsRise k m → PairsRise k es → AllPaired m es → count_by f es ≤ count_by f m
sub_count f k [] [] rise other all = omega arith
sub_count f k [] (g ∷ gs) rise other all = let none = all.0 in absurd (cc)
sub_count f k (e ∷ ms) [] rise other all = omega arith
sub_count f k (e ∷ ms) (g ∷ gs) rise other all =
    by_test (e.0 == g.0)
    (λ q.
    let id = eqb-true e.0 g.0 q in
    let same = entry_is e g.0 g.1 g.2 id (rw q at all.0) in
    let rises : PairsRise (e.0 + 1) gs = subst (λ (i : ℕ). PairsRise (i + 1) gs) (sym id) other.1 in
    let rest = sub_count f (e.0 + 1) ms gs rise.1 rises (paired_drop e ms gs (e.0 + 1) (omega arith) rises all.1) in
    let one = count_cons f e ms in
    let two = count_cons f g gs in
    let alike : ◌≡◌ {A = ℕ} (cond (f e) 1 0) (cond (f g) 1 0) = ap (λ (x : ℕ × ℕ × ℕ). cond (f x) 1 0) same in
    omega (arith, rest, one, two, alike))
    (λ q.
    let later : pair_of ms g.0 ≡ Some (g.1, g.2) = rw q at all.0 in
    let above = above_of (e.0 + 1) ms g.0 (g.1, g.2) rise.1 later in
    let rises : PairsRise (e.0 + 1) (g ∷ gs) = (above, other.1) in
    let rest = sub_count f (e.0 + 1) ms (g ∷ gs) rise.1 rises (paired_drop e ms (g ∷ gs) (e.0 + 1) (omega arith) rises all) in
    let one = count_cons f e ms in
    omega (arith, rest, one))
  where
    above_of : (k : ℕ) (es : Pairs) (p : ℕ) (pair : ℕ × ℕ) → PairsRise k es → pair_of es p ≡ Some pair → k ≤ p
    above_of k [] p pair rise at = absurd (cc)
    above_of k (e ∷ es) p pair rise at =
        let low = rise.0 in
        by_test (e.0 == p)
        (λ q. let same = eqb-true e.0 p q in omega (arith, same, low))
        (λ q. let later : pair_of es p ≡ Some pair = rw q at at in let rest = above_of (e.0 + 1) es p pair rise.1 later in omega (arith, rest, low))

-- entries without an identifier
none_counted : (f : ℕ × ℕ × ℕ → Bool) (p : ℕ) (es : Pairs) → pair_of es p ≡ None → count_by f es ≤ count_by (λ e. not (e.0 == p) && f e) es
none_counted f p [] none = omega arith
none_counted f p (e ∷ es) none =
    by_test (e.0 == p)
    (λ q. let some : ◌≡◌ {A = Option (ℕ × ℕ)} (Some (e.1, e.2)) None = rw q at none in absurd (cc))
    (λ q.
    let later : pair_of es p ≡ None = rw q at none in
    let rest = none_counted f p es later in
    by_test (f e)
    (λ u.
    let yes : (not (e.0 == p) && f e) ≡ true = rw (q, u) refl in
    let one = count_yes f e es u in
    let two = count_yes (λ e. not (e.0 == p) && f e) e es yes in
    omega (arith, rest, one, two))
    (λ u.
    let one = count_no f e es u in
    let two = count_cons (λ e. not (e.0 == p) && f e) e es in
    omega (arith, rest, one, two)))

-- where one entry isn't among them, there is one more
pub sub_count_but : (f : ℕ × ℕ × ℕ → Bool) (m es : Pairs) (p a b : ℕ) → PairsRise 0 m → PairsRise 0 es → AllPaired m es → pair_of es p ≡ None → pair_of m p ≡ Some (a, b) → f (p, a, b) ≡ true → 1 + count_by f es ≤ count_by f m
sub_count_but f m es p a b rise other all none at h =
    let here = entry_counted f m p a b at h in
    let gone = none_counted f p es none in
    let fewer = sub_count (λ e. not (e.0 == p) && f e) 0 m es rise other all in
    let two = count_two (λ e. e.0 == p && f e) (λ e. not (e.0 == p) && f e) f m
    (λ e q. (and_parts (e.0 == p) (f e) q).1)
    (λ e q. (and_parts (not (e.0 == p)) (f e) q).1)
    (λ e q. let same = (and_parts (e.0 == p) (f e) q).0 in rw same refl) in
    omega (arith, here, gone, fewer, two)

-- two entries
pub two_counted : (f : ℕ × ℕ × ℕ → Bool) (m : Pairs) (p q a b c d : ℕ) → p < q → pair_of m p ≡ Some (a, b) → pair_of m q ≡ Some (c, d) → f (p, a, b) ≡ true → f (q, c, d) ≡ true → 2 ≤ count_by f m
two_counted f m p q a b c d h at other one two =
    let here = entry_counted f m p a b at one in
    let there = entry_counted f m q c d other two in
    let both = count_two (λ e. e.0 == p && f e) (λ e. e.0 == q && f e) f m
    (λ e u. (and_parts (e.0 == p) (f e) u).1)
    (λ e u. (and_parts (e.0 == q) (f e) u).1)
    (λ e u.
    let same = eqb-true e.0 p (and_parts (e.0 == p) (f e) u).0 in
    let away = ne_eqb e.0 q (λ v. absurd (omega (arith, same, v, h))) in
    rw away refl) in
    omega (arith, here, there, both)

module _ (r : Rows) (m : Pairs) where
  -- kept entries rise
  rise_by : (k p : ℕ) (o : Option (ℕ × ℕ)) (es : Pairs) → k ≤ p → PairsRise (p + 1) es → PairsRise k (kept_entry p o es)
  rise_by k p (Some pair) es h rise = (h, rise)
  rise_by k p None es h rise = pairs_rise_more k (p + 1) es (omega (arith, h)) rise

  pub kept_rise : (k : ℕ) (xs : Rows) → RiseFrom k xs → PairsRise k (kept_in r m xs)
  kept_rise k [] rise = tt
  kept_rise k (x ∷ xs) rise = rise_by k x.0 (unchanged (row_of r x.0) (pair_of m x.0) x.1) (kept_in r m xs) rise.0 (kept_rise (x.0 + 1) xs rise.1)

  -- and are entries of the memory
  paired_by : (x : ℕ × List Value) (o : Option (ℕ × ℕ)) (es : Pairs) → unchanged (row_of r x.0) (pair_of m x.0) x.1 ≡ o → AllPaired m es → AllPaired m (kept_entry x.0 o es)
  paired_by x (Some pair) es e all = (unchanged_pair (row_of r x.0) (pair_of m x.0) x.1 pair e, all)
  paired_by x None es e all = all

  pub kept_paired : (xs : Rows) → AllPaired m (kept_in r m xs)
  kept_paired [] = tt
  kept_paired (x ∷ xs) = paired_by x (unchanged (row_of r x.0) (pair_of m x.0) x.1) (kept_in r m xs) refl (kept_paired xs)

  -- the kept entry of each row
  abbrev pub AreKept : Pairs → Rows → Type 0
  AreKept kept [] = Unit {0}
  AreKept kept (x ∷ xs) = (pair_of kept x.0 ≡ unchanged (row_of r x.0) (pair_of m x.0) x.1) × AreKept kept xs

  kept_more : (e : ℕ × ℕ × ℕ) (kept : Pairs) (xs : Rows) (k : ℕ) → e.0 < k → RiseFrom k xs → AreKept kept xs → AreKept (e ∷ kept) xs
  kept_more e kept [] k h rise all = tt
  kept_more e kept (x ∷ xs) k h rise all =
      let low = rise.0 in
      let other = ne_eqb e.0 x.0 (λ q. absurd (omega (arith, q, low, h))) in
      (rw other all.0, kept_more e kept xs (x.0 + 1) (omega (arith, h, low)) rise.1 all.1)

  kept_by : (x : ℕ × List Value) (xs : Rows) (o : Option (ℕ × ℕ)) → unchanged (row_of r x.0) (pair_of m x.0) x.1 ≡ o → RiseFrom (x.0 + 1) xs → AreKept (kept_in r m xs) xs → (pair_of (kept_entry x.0 o (kept_in r m xs)) x.0 ≡ o) × AreKept (kept_entry x.0 o (kept_in r m xs)) xs
  kept_by x xs (Some pair) e rise all = (let own = eq-eqb x.0 x.0 refl in rw own refl, kept_more (x.0, pair.0, pair.1) (kept_in r m xs) xs (x.0 + 1) (omega arith) rise all)
  kept_by x xs None e rise all = (none_pair (x.0 + 1) (kept_in r m xs) x.0 (kept_rise (x.0 + 1) xs rise) (omega arith), all)

  pub are_kept : (k : ℕ) (xs : Rows) → RiseFrom k xs → AreKept (kept_in r m xs) xs
  are_kept k [] rise = tt
  are_kept k (x ∷ xs) rise = kept_by x xs (unchanged (row_of r x.0) (pair_of m x.0) x.1) refl rise.1 (are_kept (x.0 + 1) xs rise.1)
