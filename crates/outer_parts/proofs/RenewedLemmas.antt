-- Identifiers that are closed in the memory are closed in the new one.
use Rattle.std.proofs.Common.{◌≡◌, ℕ, ◌≤◌, ◌==◌, ◌++◌, filter, Bool, true, false, not, ◌||◌, Some, ap, sym, ◌∙◌, subst}
use Rattle.std.proofs.lemmas.Bool.{and_parts, eqb-true, false≢true, not-true}
use mathlib.Core.Logic.{inl, inr}
use Rattle.row_store.specs.Rows.{Rows, RiseFrom, row_of}
use Rattle.id_memory.specs.Pairs.{Pairs}
use Rattle.row_parts.specs.RowCells.{by_test}
use Rattle.pair_rows.specs.Halves.{first_of, second_of}
use Rattle.pair_rows.specs.Shown.{Joining, numbered}
use Rattle.pair_rows.specs.Stays.{stands}
use Rattle.pair_rows.specs.inner.Lookups.{filter_append}
use Rattle.outer_law.specs.Entries.{IsOuter, entries, is_entry, new_entries}
use Rattle.pair_parts.specs.Parts.{memory_only}
use Rattle.cond_parts.specs.Forward.{BringsShown}
use Rattle.cond_parts.proofs.MemoryLemmas.{rows_of_each}
use Rattle.cond_parts.proofs.StandingLemmas.{stands_append}
use Rattle.cond_parts.proofs.StayLemmas.{stands_either}
use Rattle.outer_parts.specs.Closed.{BringsHalf, BringsOther, IsOuterClosed}
use Rattle.outer_parts.proofs.AbsentLemmas.{not_zero}
use Rattle.outer_parts.proofs.EntriesLemmas.{entries_bring, entries_rest}
use Rattle.outer_parts.proofs.EntryLemmas.{HasHalf, alone_is_one, each_test, entry_left, half_of}
use Rattle.outer_parts.proofs.ShownLemmas.{IsKnown, Other, known, other_first, other_second, shown_still}

module _ (j : Joining) (C P : ℕ → Bool) (s t r : Rows) (m : Pairs) (ns nt : Rows) (is : IsOuter j s t r m)
    (in_part_of : (q : ℕ) → C q ≡ true → P q ≡ true) (same_s : (q : ℕ) → C q ≡ false → row_of ns q ≡ row_of s q) (same_t : (q : ℕ) → C q ≡ false → row_of nt q ≡ row_of t q)
    (c : BringsShown j C P m ns nt) (first : BringsOther C P first_of m) (second : BringsOther C P second_of m) (rise_s : RiseFrom 1 ns) (rise_t : RiseFrom 1 nt) where
  abbrev big : ℕ → ℕ → Bool
  big a b = is_entry j s t m ns nt a b

  -- a full entry that passes, of which no half is changed, is in the new memory
  stays_in : (pick : ℕ × ℕ × ℕ → ℕ) (e : ℕ × ℕ × ℕ) (more : Pairs) → Other j C P s t r m ns nt is in_part_of same_s same_t c first second rise_s rise_t e → (e.1 == 0) ≡ false → (e.2 == 0) ≡ false → stands pick (memory_only P (filter (λ x. big x.1 x.2) m ++ more)) (pick e) ≡ true
  stays_in pick e more other one two =
      let k = other.0 in
      let parts = and_parts (P e.0) (not (C e.1 || C e.2)) other.1 in
      let full = shown_still j C P s t r m ns nt is in_part_of same_s same_t c first second rise_s rise_t e k (not-true (C e.1 || C e.2) parts.1) one two in
      let kept : big e.1 e.2 ≡ true = rw (one, two) full in
      ap (λ (es : Pairs). stands pick es (pick e)) (filter_append (λ x. P x.0) (filter (λ x. big x.1 x.2) m) more)
      ∙ stands_append pick (memory_only P (filter (λ x. big x.1 x.2) m)) (memory_only P more) (pick e) (entry_left (λ x. big x.1 x.2) (λ x. P x.0) pick m e.0 e.1 e.2 k.at kept parts.0)

  -- what is known of an entry that doesn't pass
  abbrev Out : ℕ × ℕ × ℕ → Type 0
  Out e = IsKnown j C P s t r m ns nt is in_part_of same_s same_t c first second rise_s rise_t e × (not (P e.0) ≡ true)

  -- a row that passes and stands in one of those
  old_out : (pick : ℕ × ℕ × ℕ → ℕ) (q n : ℕ) → ((i : ℕ) → n ≤ i → P i ≡ true) → stands pick (memory_only (λ i. not (P i)) (entries j s t m ns nt n)) q ≡ true → HasHalf Out pick q
  old_out pick q n high e =
      half_of Out pick (memory_only (λ i. not (P i)) m) q (each_test (IsKnown j C P s t r m ns nt is in_part_of same_s same_t c first second rise_s rise_t) (λ x. not (P x.0)) m (known j C P s t r m ns nt is in_part_of same_s same_t c first second rise_s rise_t))
      (sym (ap (λ (es : Pairs). stands pick es q) (entries_rest j C P s t r m ns nt is in_part_of same_s same_t c first second rise_s rise_t n high)) ∙ e)

  first_again : (n : ℕ) → ((i : ℕ) → n ≤ i → P i ≡ true) → BringsHalf P first_of (entries j s t m ns nt n)
  first_again n high q low pass e =
      elim (stands_either P first_of (entries j s t m ns nt n) q e) [
        | inl one ↦ one
        | inr one ↦
            let f = old_out first_of q n high one in
            let out = not-true (P f.entry.0) f.holds.1 in
            let real = not_zero q low in
            let w = other_first j C P s t r m ns nt is in_part_of same_s same_t c first second rise_s rise_t f.entry.0 q f.entry.2 real pass (f.holds.0.at ∙ ap (λ (i : ℕ). Some (i, f.entry.2)) f.half) out in
            let own : (w.entry.1 == 0) ≡ false = ap (λ (i : ℕ). i == 0) w.half ∙ real in
            by_test (w.entry.2 == 0)
            (λ z.
            let same = alone_is_one first_of second_of m w.entry f.entry (is.first.alone w.entry.1) w.holds.0.at f.holds.0.at (f.half ∙ sym w.half) (eqb-true w.entry.2 0 z) in
            absurd (false≢true (sym out ∙ sym (ap P same) ∙ (and_parts (P w.entry.0) _ w.holds.1).0)))
            (λ z.
            subst (λ (i : ℕ). stands first_of (memory_only P (entries j s t m ns nt n)) i ≡ true) w.half
            (stays_in first_of w.entry (numbered n (new_entries j s t m ns nt)) w.holds own z))
      ]

  second_again : (n : ℕ) → ((i : ℕ) → n ≤ i → P i ≡ true) → BringsHalf P second_of (entries j s t m ns nt n)
  second_again n high q low pass e =
      elim (stands_either P second_of (entries j s t m ns nt n) q e) [
        | inl one ↦ one
        | inr one ↦
            let f = old_out second_of q n high one in
            let out = not-true (P f.entry.0) f.holds.1 in
            let real = not_zero q low in
            let w = other_second j C P s t r m ns nt is in_part_of same_s same_t c first second rise_s rise_t f.entry.0 f.entry.1 q real pass (f.holds.0.at ∙ ap (λ (i : ℕ). Some (f.entry.1, i)) f.half) out in
            let own : (w.entry.2 == 0) ≡ false = ap (λ (i : ℕ). i == 0) w.half ∙ real in
            by_test (w.entry.1 == 0)
            (λ z.
            let same = alone_is_one second_of first_of m w.entry f.entry (is.second.alone w.entry.2) w.holds.0.at f.holds.0.at (f.half ∙ sym w.half) (eqb-true w.entry.1 0 z) in
            absurd (false≢true (sym out ∙ sym (ap P same) ∙ (and_parts (P w.entry.0) _ w.holds.1).0)))
            (λ z.
            subst (λ (i : ℕ). stands second_of (memory_only P (entries j s t m ns nt n)) i ≡ true) w.half
            (stays_in second_of w.entry (numbered n (new_entries j s t m ns nt)) w.holds z own))
      ]

  -- THEY ARE CLOSED IN THE NEW MEMORY
  pub closed_again : P 0 ≡ true → (n : ℕ) → ((i : ℕ) → n ≤ i → P i ≡ true) → IsOuterClosed P (entries j s t m ns nt n)
  closed_again zero n high = record {
    absent = zero;
    rows = rows_of_each P (entries j s t m ns nt n) (entries_bring j C P s t r m ns nt is in_part_of same_s same_t c first second rise_s rise_t zero n);
    first = first_again n high;
    second = second_again n high;
  }
