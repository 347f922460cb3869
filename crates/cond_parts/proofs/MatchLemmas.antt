-- Pairs of rows that match before and after, of a part and of the whole.
use Rattle.std.proofs.Common.{◌≡◌, ℕ, ◌==◌, Bool, true, false, not, ◌&&◌, ◌||◌, IsSome, is_some, refl, ap, sym, ◌∙◌}
use Rattle.std.proofs.lemmas.Bool.{and_parts, eqb-true, false≢true}
use Rattle.row_store.specs.Rows.{Rows, row_of}
use Rattle.id_memory.specs.Pairs.{Pairs, RiseFrom as PairsRise, has_pair}
use Rattle.op_law.specs.Local.{rows_only}
use Rattle.row_parts.specs.RowCells.{Cell, by_test}
use Rattle.pair_rows.specs.Shown.{Joining, has, holds_in, is_shown, matches, row_at}
use Rattle.pair_rows.specs.inner.ShownLaws.{still_none, still_shown}
use Rattle.pair_parts.specs.Parts.{memory_only}
use Rattle.cond_parts.specs.Forward.{BringsShown}
use Rattle.cond_parts.proofs.FilterLemmas.{has_part}
use Rattle.cond_parts.proofs.JoinedLemmas.{row_part}
use Rattle.cond_parts.proofs.MemoryLemmas.{each_of}

-- a pair is shown, by its new and old rows and whether it was there
abbrev pub shown_by : Joining → Cell → Cell → Bool → Bool
shown_by j new old was = is_some new && ((was && not (holds_in j.condition old)) || (holds_in j.condition new && not (holds_in j.condition old && not was)))

-- a pair that is shown and wasn't there matches now
new_matches : (there was old new : Bool) → ((there && ((was && not old) || (new && not (old && not was)))) && not was) ≡ true → new ≡ true
new_matches there was old true e = refl
new_matches true true true false e = absurd (false≢true e)
new_matches true true false false e = absurd (false≢true e)
new_matches true false true false e = absurd (false≢true e)
new_matches true false false false e = absurd (false≢true e)
new_matches false true old false e = absurd (false≢true e)
new_matches false false old false e = absurd (false≢true e)

-- neither is so
neither : (a b : Bool) → (a || b) ≡ false → (a ≡ false) × (b ≡ false)
neither true b e = absurd (false≢true (sym e))
neither false b e = (refl, e)

module _ (j : Joining) (C P : ℕ → Bool) (s t : Rows) (m : Pairs) (ns nt : Rows) (rise : PairsRise 0 m)
    (in_part_of : (q : ℕ) → C q ≡ true → P q ≡ true)
    (same_s : (q : ℕ) → C q ≡ false → row_of ns q ≡ row_of s q) (same_t : (q : ℕ) → C q ≡ false → row_of nt q ≡ row_of t q)
    (c : BringsShown j C P m ns nt) where
  -- what is new of the whole
  abbrev pub is_new : ℕ → ℕ → Bool
  is_new a b = is_shown j s t m ns nt a b && not (has m a b)

  -- and of the part
  abbrev pub is_new_part : ℕ → ℕ → Bool
  is_new_part a b = is_shown j (rows_only P s) (rows_only P t) (memory_only P m) (rows_only P ns) (rows_only P nt) a b && not (has (memory_only P m) a b)

  -- the row of a pair of which none is changed
  pub row_same : (a b : ℕ) → (C a || C b) ≡ false → row_at j ns nt a b ≡ row_at j s t a b
  row_same a b e =
      let both = neither (C a) (C b) e in
      let first = same_s a both.0 in
      let second = same_t b both.1 in
      rw (first, second) refl

  -- the entries of a pair of which one is changed pass
  pub has_same : (a b : ℕ) → (C a || C b) ≡ true → has (memory_only P m) a b ≡ has m a b
  has_same a b e =
      has_part P a b m (each_of (λ x. has_pair a b x ≡ true → P x.0 ≡ true) m rise
      (λ x at pair.
      let parts = and_parts (x.1 == a) (x.2 == b) pair in
      let first = eqb-true x.1 a parts.0 in
      let second = eqb-true x.2 b parts.1 in
      c.entries x.0 x.1 x.2 at (ap (λ (i : ℕ). C i || C x.2) first ∙ ap (λ (i : ℕ). C a || C i) second ∙ e)))

  -- a pair of the part has the rows that it has in the whole
  pub cells_part : (a b : ℕ) → P a ≡ true → P b ≡ true → is_shown j (rows_only P s) (rows_only P t) (memory_only P m) (rows_only P ns) (rows_only P nt) a b ≡ shown_by j (row_at j ns nt a b) (row_at j s t a b) (has (memory_only P m) a b)
  cells_part a b one other =
      let was = has (memory_only P m) a b in
      ap (λ (x : Cell). shown_by j x (row_at j (rows_only P s) (rows_only P t) a b) was) (row_part j P ns nt a b one other) ∙ ap (λ (x : Cell). shown_by j (row_at j ns nt a b) x was) (row_part j P s t a b one other)

  -- so it is shown alike, where it has an entry alike
  pub shown_alike : (a b : ℕ) → P a ≡ true → P b ≡ true → has (memory_only P m) a b ≡ has m a b
      → is_shown j (rows_only P s) (rows_only P t) (memory_only P m) (rows_only P ns) (rows_only P nt) a b ≡ is_shown j s t m ns nt a b
  shown_alike a b one other was = cells_part a b one other ∙ ap (λ (h : Bool). shown_by j (row_at j ns nt a b) (row_at j s t a b) h) was

  -- a pair of which none is changed is new neither by a memory nor by another
  pub none_new : (a b : ℕ) (was : Bool) → (C a || C b) ≡ false → (shown_by j (row_at j ns nt a b) (row_at j s t a b) was && not was) ≡ false
  none_new a b was e =
      let old = row_at j s t a b in
      ap (λ (x : Cell). shown_by j x old was && not was) (row_same a b e) ∙ still_none j (is_some old) was (holds_in j.condition old)

  -- and is shown where it has an entry, and its rows are there
  pub still : (a b : ℕ) (was : Bool) → (C a || C b) ≡ false → was ≡ true → IsSome (row_at j s t a b) → shown_by j (row_at j ns nt a b) (row_at j s t a b) was ≡ true
  still a b was e h there =
      let old = row_at j s t a b in
      ap (λ (x : Cell). shown_by j x old was) (row_same a b e) ∙ still_shown j (is_some old) was (holds_in j.condition old) there h

  -- a pair of the part is new where it is new in the whole
  pub new_alike : (a b : ℕ) → P a ≡ true → P b ≡ true → is_new_part a b ≡ is_new a b
  new_alike a b one other =
      let was = has (memory_only P m) a b in
      by_test (C a || C b)
      (λ e. let same = has_same a b e in ap (λ (u : Bool). u && not was) (shown_alike a b one other same) ∙ ap (λ (h : Bool). is_shown j s t m ns nt a b && not h) same)
      (λ e. ap (λ (u : Bool). u && not was) (cells_part a b one other) ∙ none_new a b was e ∙ sym (none_new a b (has m a b) e))

  -- a new pair is one of rows that pass
  pub new_inside : (a b : ℕ) → is_new a b ≡ true → (P a ≡ true) × (P b ≡ true)
  new_inside a b e =
      let match = new_matches (is_some (row_at j ns nt a b)) (has m a b) (matches j s t a b) (matches j ns nt a b) e in
      by_test (C a)
      (λ u. (in_part_of a u, c.first a b u match))
      (λ u.
      by_test (C b)
      (λ v. (c.second a b v match, in_part_of b v))
      (λ v.
      let none : (C a || C b) ≡ false = rw (u, v) refl in
      let no = none_new a b (has m a b) none in
      absurd (false≢true (sym no ∙ e))))
