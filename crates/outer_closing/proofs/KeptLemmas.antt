-- The entries whose rows stay are those of identifiers that aren't replaced.
use Rattle.std.proofs.Common.{◌≡◌, ℕ, ◌+◌, ◌==◌, List, [], ◌∷◌, true, false, not, Option, Some, None, IsSome, refl, ap, sym, ◌∙◌, subst, arith}
use Rattle.std.proofs.lemmas.Bool.{eqb-true, eq-eqb, false≢true}
use Rattle.par_base.specs.declared.value.Value.{Value}
use Rattle.par_base.specs.SameRows.{same_row}
use Rattle.par_base.specs.inner.SameLaws.{row_same}
use Rattle.row_store.specs.Rows.{Rows, RiseFrom, row_of}
use Rattle.id_memory.specs.Pairs.{Pairs, RiseFrom as PairsRise, pair_of}
use Rattle.id_memory.specs.Laws.{OneMemoryHasThem}
use Rattle.op_law.specs.Identifiers.{has_id}
use Rattle.row_parts.specs.RowCells.{Cell, by_option, by_test}
use Rattle.pair_rows.specs.Given.{kept_entry, kept_in, unchanged}
use Rattle.pair_rows.specs.inner.TakenPairs.{unchanged_row}
use Rattle.pair_parts.specs.Parts.{memory_only}
use Rattle.pair_parts.proofs.MemoryLaws.{memory_in, memory_out, memory_rise}
use Rattle.outer_law.proofs.SubsetLaws.{kept_rise, none_pair}
use Rattle.outer_closing.proofs.ReplacedLemmas.{LeavesRow}

-- the pair that is kept for a new row
abbrev kept_of : Rows → Pairs → ℕ → Cell → Option (ℕ × ℕ)
kept_of r m q None = None
kept_of r m q (Some row) = unchanged (row_of r q) (pair_of m q) row

-- a kept entry at its identifier
entry_at : (q : ℕ) (o : Option (ℕ × ℕ)) (es : Pairs) → pair_of es q ≡ None → pair_of (kept_entry q o es) q ≡ o
entry_at q None es none = none
entry_at q (Some pair) es none = let own = eq-eqb q q refl in rw own refl

-- and at another one
entry_other : (p q : ℕ) (o : Option (ℕ × ℕ)) (es : Pairs) → (p == q) ≡ false → pair_of (kept_entry p o es) q ≡ pair_of es q
entry_other p q None es other = refl
entry_other p q (Some pair) es other = rw other refl

-- the kept pair of an identifier
kept_pair : (r : Rows) (m : Pairs) (k : ℕ) (xs : Rows) (q : ℕ) → RiseFrom k xs → pair_of (kept_in r m xs) q ≡ kept_of r m q (row_of xs q)
kept_pair r m k [] q rise = refl
kept_pair r m k (x ∷ xs) q rise =
    by_test (x.0 == q)
    (λ own.
    let none = none_pair (x.0 + 1) (kept_in r m xs) x.0 (kept_rise r m (x.0 + 1) xs rise.1) (omega arith) in
    let at = entry_at x.0 (unchanged (row_of r x.0) (pair_of m x.0) x.1) (kept_in r m xs) none in
    let here : pair_of (kept_in r m (x ∷ xs)) q ≡ unchanged (row_of r q) (pair_of m q) x.1 = subst (λ (k : ℕ). pair_of (kept_in r m (x ∷ xs)) k ≡ unchanged (row_of r k) (pair_of m k) x.1) (eqb-true x.0 q own) at in
    here ∙ at_own own)
    (λ other. entry_other x.0 q (unchanged (row_of r x.0) (pair_of m x.0) x.1) (kept_in r m xs) other ∙ kept_pair r m (x.0 + 1) xs q rise.1 ∙ at_other other)
  where
    at_own : (x.0 == q) ≡ true → unchanged (row_of r q) (pair_of m q) x.1 ≡ kept_of r m q (row_of (x ∷ xs) q)
    at_own own = rw own refl

    at_other : (x.0 == q) ≡ false → kept_of r m q (row_of xs q) ≡ kept_of r m q (row_of (x ∷ xs) q)
    at_other other = rw other refl

unchanged_none : (old : Cell) (row : List Value) → unchanged old None row ≡ None
unchanged_none None row = refl
unchanged_none (Some old) row = by_test (same_row old row) (λ e. rw e refl) (λ e. rw e refl)

unchanged_yes : (old row : List Value) (pair : Option (ℕ × ℕ)) → same_row old row ≡ true → unchanged (Some old) pair row ≡ pair
unchanged_yes old row pair same = rw same refl

module _ (r : Rows) (m : Pairs) (new : Rows) (replaced : List ℕ) (rise : PairsRise 0 m) (new_rise : RiseFrom 0 new)
    (there : (q : ℕ) → IsSome (pair_of m q) → IsSome (row_of r q))
    (left : (q : ℕ) (old : List Value) → has_id replaced q ≡ false → row_of r q ≡ Some old → LeavesRow old (row_of new q))
    (stays : (q : ℕ) (old row : List Value) → row_of r q ≡ Some old → row_of new q ≡ Some row → same_row old row ≡ true → has_id replaced q ≡ false) where
  -- none is kept of a replaced row
  none_of : (q : ℕ) → has_id replaced q ≡ true → kept_of r m q (row_of new q) ≡ None
  none_of q out =
      by_option (row_of new q)
      (λ e. ap (λ (c : Cell). kept_of r m q c) e)
      (λ row e. ap (λ (c : Cell). kept_of r m q c) e ∙
      by_option (unchanged (row_of r q) (pair_of m q) row)
      (λ u. u)
      (λ pair u. let was = unchanged_row (row_of r q) (pair_of m q) row pair u in absurd (false≢true (sym (stays q row row was e (row_same row)) ∙ out))))

  -- the pair of any other row is
  some_of : (q : ℕ) → has_id replaced q ≡ false → kept_of r m q (row_of new q) ≡ pair_of m q
  some_of q free =
      by_option (pair_of m q)
      (λ none.
      by_option (row_of new q)
      (λ e. ap (λ (c : Cell). kept_of r m q c) e ∙ sym none)
      (λ row e. ap (λ (c : Cell). kept_of r m q c) e ∙ ap (λ (o : Option (ℕ × ℕ)). unchanged (row_of r q) o row) none ∙ unchanged_none (row_of r q) row ∙ sym none))
      (λ pair some.
      let has : IsSome (row_of r q) = there q (subst (λ (o : Option (ℕ × ℕ)). IsSome o) (sym some) refl) in
      by_option (row_of r q)
      (λ none. absurd (false≢true (subst (λ (c : Cell). IsSome c) none has)))
      (λ old was.
      let f = left q old free was in
      ap (λ (c : Cell). kept_of r m q c) f.is ∙ ap (λ (c : Cell). unchanged c (pair_of m q) f.row) was ∙ unchanged_yes old f.row (pair_of m q) f.same))

  -- THE KEPT ENTRIES
  pub kept_are : OneMemoryHasThem → kept_in r m new ≡ memory_only (λ i. not (has_id replaced i)) m
  kept_are law =
      law (kept_in r m new) (memory_only (λ i. not (has_id replaced i)) m) (kept_rise r m 0 new new_rise) (memory_rise (λ i. not (has_id replaced i)) 0 m rise)
      (λ q.
      kept_pair r m 0 new q new_rise
      ∙ by_test (has_id replaced q)
      (λ out. none_of q out ∙ sym (memory_out (λ i. not (has_id replaced i)) m q (ap not out)))
      (λ free. some_of q free ∙ sym (memory_in (λ i. not (has_id replaced i)) m q (ap not free))))
