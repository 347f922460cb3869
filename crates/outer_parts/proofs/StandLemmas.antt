-- Rows that stand in entries of a new memory, of a part and of the whole.
use Rattle.std.proofs.Common.{◌≡◌, ℕ, ◌≤◌, [], ◌∷◌, Bool, true, false, ◌&&◌, not, IsSome, refl, ap, sym, ◌∙◌}
use Rattle.std.proofs.lemmas.Bool.{and_parts, false≢true, not-true}
use mathlib.Core.Logic.{inl, inr}
use Rattle.row_store.specs.Rows.{Rows, row_of}
use Rattle.id_memory.specs.Pairs.{Pairs}
use Rattle.op_law.specs.Local.{rows_only}
use Rattle.row_parts.specs.RowCells.{by_test}
use Rattle.pair_rows.proofs.ChangedLemmas.{rows_of}
use Rattle.pair_rows.specs.Stays.{stands}
use Rattle.pair_rows.specs.inner.Changed.{AreRowsOf}
use Rattle.outer_law.specs.Entries.{AreHalves}
use Rattle.outer_law.specs.Placed.{standing}
use Rattle.pair_parts.specs.Parts.{memory_only}
use Rattle.cond_parts.proofs.MemoryLemmas.{BringsIt, Each, both_ways, stands_rest, stands_whole}
use Rattle.cond_parts.proofs.StayLemmas.{stands_either, stands_more}
use Rattle.outer_parts.specs.Backward.{BringsStill}
use Rattle.outer_parts.specs.Closed.{BringsHalf}
use Rattle.outer_parts.proofs.ChoiceLemmas.{AllIds, filter_in, filter_stays, filter_swap}
use Rattle.outer_parts.proofs.EntryLemmas.{count_stands}

module _ (C P : ℕ → Bool) (pick other : ℕ × ℕ × ℕ → ℕ) (m pairs : Pairs) (old : Rows) (in_part_of : (q : ℕ) → C q ≡ true → P q ≡ true)
    (same : (X : ℕ → Bool) → ((q : ℕ) → X q ≡ true → C q ≡ false) → memory_only X pairs ≡ memory_only X m)
    (still : BringsStill C P pick m) (brings : Each (BringsIt P pick) m) (halves : AreHalves pick other old m) where
  abbrev Q : ℕ → Bool
  Q i = not (P i)

  abbrev Still : ℕ → Bool
  Still i = P i && not (C i)

  out_same : (q : ℕ) → Q q ≡ true → C q ≡ false
  out_same q e = by_test (C q) (λ u. let pass = in_part_of q u in let bad : not true ≡ true = rw pass at e in absurd (false≢true bad)) (λ u. u)

  still_same : (q : ℕ) → Still q ≡ true → C q ≡ false
  still_same q e = not-true (C q) (and_parts (P q) (not (C q)) e).1

  still_pass : (q : ℕ) → Still q ≡ true → P q ≡ true
  still_pass q e = (and_parts (P q) (not (C q)) e).0

  -- a row that passes stands in an entry that does
  pub old_half : BringsHalf P pick m
  old_half q low pass e = elim (stands_either P pick m q e) [ inl one ↦ one | inr one ↦ stands_more Still P pick m q still_pass (still q low pass one) ]

  pub new_half : BringsHalf P pick pairs
  new_half q low pass e =
      elim (stands_either P pick pairs q e) [
        | inl one ↦ one
        | inr one ↦
            let was = sym (ap (λ (es : Pairs). stands pick es q) (same Q out_same)) ∙ one in
            let kept = ap (λ (es : Pairs). stands pick es q) (same Still still_same) ∙ still q low pass was in
            stands_more Still P pick pairs q still_pass kept
      ]

  -- THE ROWS OF THE PART STAND AS THOSE OF THE WHOLE
  pub standing_part : (rows : Rows) → AllIds (λ q. 1 ≤ q) rows → standing pick (memory_only P pairs) (rows_only P rows) ≡ rows_only P (standing pick pairs rows)
  standing_part rows all =
      filter_in P (stands pick pairs) (stands pick (memory_only P pairs)) rows all
      (λ q low pass. both_ways (stands pick (memory_only P pairs) q) (stands pick pairs q) (stands_whole P pick pairs q) (λ e. new_half q low pass e))

  -- an old row that doesn't pass stands
  rest_stands : (xs : Rows) → AreRowsOf old xs → AllIds (λ q. Q q ≡ true → stands pick pairs q ≡ true) xs
  rest_stands [] are = tt
  rest_stands (x ∷ xs) are = (
    λ e.
        let out = not-true (P x.0) e in
        let at = are.0 in
        let some : IsSome (row_of old x.0) = rw at refl in
        let was = stands_rest P pick m x.0 out brings ∙ count_stands pick m x.0 (halves.each x.0 some) in
        stands_whole Q pick pairs x.0 (ap (λ (es : Pairs). stands pick es x.0) (same Q out_same) ∙ was),
    rest_stands xs are.1,
  )

  -- THE OTHERS STAY
  pub standing_rest : (rows : Rows) → rows_only Q rows ≡ rows_only Q old → rows_only Q (standing pick pairs rows) ≡ rows_only Q old
  standing_rest rows rest =
      filter_swap Q (stands pick pairs) rows
      ∙ ap (λ (xs : Rows). standing pick pairs xs) rest
      ∙ filter_stays Q (stands pick pairs) old (rest_stands old (rows_of 1 old halves.rise))
