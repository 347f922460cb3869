-- The joined rows of the pairs that are shown.
use Rattle.std.proofs.Common.{◌≡◌, ℕ, ◌+◌, ◌≤◌, ◌==◌, ◌⊎◌, List, [], ◌∷◌, ◌++◌, length, filter, if◌then◌else◌, Bool, true, false, not, ◌&&◌, ◌||◌, Option, Some, None, IsSome, is_some, refl, ap, sym, ◌∙◌, subst, append-nil, arith}
use Rattle.std.proofs.lemmas.Bool.{and_parts, eqb-true}
use mathlib.Core.Logic.{inl, inr}
use Rattle.row_store.specs.Rows.{Rows, RiseFrom, row_of}
use Rattle.row_store.specs.inner.FoundRows.{rise_more}
use Rattle.id_memory.specs.Pairs.{Pairs, RiseFrom as PairsRise, IsOneToOne, pair_of, has_pair}
use Rattle.op_law.specs.Tables.{RowsWide}
use Rattle.op_law.specs.Sound.{IsBelow, RowsSound, PairsSound}
use Rattle.op_law.proofs.SoundLaws.{rows_more, pairs_more}
use Rattle.op_rows.specs.Cells.{with_row, CellSound}
use Rattle.row_parts.specs.RowCells.{Cell, by_test, by_option}
use Rattle.pair_rows.specs.inner.JoinedRows.{joined_long, joined_sound}
use Rattle.pair_rows.specs.inner.Lookups.{cell_sound, below_some}
use Rattle.pair_rows.specs.inner.PairLemmas.{often_numbered, often_filter, never, once_all, count_filter, count_append, has_not, filter_rises, numbered_rises, append_rises, filter_pairs_sound, append_pairs_sound, BothBelow, numbered_sound, append_pair, filter_pair, numbered_pair, AllIn, all_in}
use Rattle.pair_rows.specs.Shown.{Joining, join_cells, row_at, matches, joined, AreThere, IsJoined, has, is_shown, all_pairs, new_pairs, numbered, kept_pairs, shown_pairs}

module _ (j : Joining) where
  -- a joined row has both rows
  pub cells_there : (c d : Cell) → is_some (join_cells j c d) ≡ true → IsSome c × IsSome d
  cells_there (Some a) (Some b) h = (refl, refl)
  cells_there (Some a) None h = absurd (cc)
  cells_there None d h = absurd (cc)

  -- both rows make a joined row
  pub there_cells : (c d : Cell) → IsSome c → IsSome d → IsSome (join_cells j c d)
  there_cells (Some a) (Some b) h k = refl
  there_cells (Some a) None h k = absurd (cc)
  there_cells None d h k = absurd (cc)

  -- a joined row of sound ones is sound
  cells_sound : (n : ℕ) (c d : Cell) → CellSound n c → CellSound n d → CellSound n (join_cells j c d)
  cells_sound n (Some a) (Some b) h k = joined_sound n j.first j.second a b h k
  cells_sound n (Some a) None h k = tt
  cells_sound n None d h k = tt

  -- one joined row in front
  with_rise : (n p : ℕ) (c d : Cell) (rows : Rows) → n ≤ p → RiseFrom (p + 1) rows → RiseFrom n (with_row p (join_cells j c d) rows)
  with_rise n p (Some a) (Some b) rows h rise = (h, rise)
  with_rise n p (Some a) None rows h rise = rise_more n (p + 1) rows (omega (arith, h)) rise
  with_rise n p None d rows h rise = rise_more n (p + 1) rows (omega (arith, h)) rise

  -- and is as wide as both
  with_wide : (p : ℕ) (c d : Cell) (rows : Rows) → RowsWide (length j.first + length j.second) rows → RowsWide (length j.first + length j.second) (with_row p (join_cells j c d) rows)
  with_wide p (Some a) (Some b) rows wide = (joined_long j.first j.second a b, wide)
  with_wide p (Some a) None rows wide = wide
  with_wide p None d rows wide = wide

  -- and sound
  with_sound : (n p : ℕ) (c : Cell) (rows : Rows) → IsBelow n p → CellSound n c → RowsSound n rows → RowsSound n (with_row p c rows)
  with_sound n p (Some row) rows below cell sound = ((below, cell), sound)
  with_sound n p None rows below cell sound = sound

  -- and is found
  with_found : (p id : ℕ) (c : Cell) (rows : Rows) → IsSome c → row_of (with_row p c rows) id ≡ (if p == id then c else row_of rows id)
  with_found p id (Some row) rows h = refl
  with_found p id None rows h = absurd (cc)

  -- the joined rows of a memory
  pub joined_rise : (n : ℕ) (s t : Rows) (m : Pairs) → PairsRise n m → RiseFrom n (joined j s t m)
  joined_rise n s t [] rise = tt
  joined_rise n s t (e ∷ es) rise = with_rise n e.0 (row_of s e.1) (row_of t e.2) (joined j s t es) rise.0 (joined_rise (e.0 + 1) s t es rise.1)

  -- and are as wide as both
  pub joined_wide : (s t : Rows) (m : Pairs) → RowsWide (length j.first + length j.second) (joined j s t m)
  joined_wide s t [] = tt
  joined_wide s t (e ∷ es) = with_wide e.0 (row_of s e.1) (row_of t e.2) (joined j s t es) (joined_wide s t es)

  -- and are sound
  pub joined_rows_sound : (n : ℕ) (s t : Rows) (m : Pairs) → RowsSound n s → RowsSound n t → PairsSound n m → RowsSound n (joined j s t m)
  joined_rows_sound n s t [] one other sound = tt
  joined_rows_sound n s t (e ∷ es) one other sound =
      with_sound n e.0 (row_at j s t e.1 e.2) (joined j s t es) sound.0.0
      (cells_sound n (row_of s e.1) (row_of t e.2) (cell_sound n s e.1 one) (cell_sound n t e.2 other))
      (joined_rows_sound n s t es one other sound.1)

  -- the joined row of the pair of an identifier, where it has one
  abbrev pub row_for : Rows → Rows → Option (ℕ × ℕ) → Cell
  row_for s t None = None
  row_for s t (Some pair) = row_at j s t pair.0 pair.1

  -- and are found by their identifiers
  pub joined_found : (s t : Rows) (m : Pairs) (id : ℕ) → AreThere s t m → row_of (joined j s t m) id ≡ row_for s t (pair_of m id)
  joined_found s t [] id there = refl
  joined_found s t (e ∷ es) id there =
      let here = with_found e.0 id (row_at j s t e.1 e.2) (joined j s t es) (there_cells (row_of s e.1) (row_of t e.2) there.0.0 there.0.1) in
      let rest = joined_found s t es id there.1 in
      by_test (e.0 == id) (λ q. rw q (here ∙ rw q refl)) (λ q. rw q (here ∙ rw q rest))

  -- an identifier of the joined rows is one of the memory, and the other way
  pub pair_is_there : (s t : Rows) (m : Pairs) (id a b : ℕ) → AreThere s t m → pair_of m id ≡ Some (a, b) → IsSome (row_of s a) × IsSome (row_of t b)
  pair_is_there s t [] id a b there is = absurd (cc)
  pair_is_there s t (e ∷ es) id a b there is =
      by_test (e.0 == id)
      (λ q.
      let pairs : ◌≡◌ {A = Option (ℕ × ℕ)} (Some (e.1, e.2)) (Some (a, b)) = rw q at is in
      let pair : ◌≡◌ {A = ℕ × ℕ} (e.1, e.2) (a, b) = cc in
      let first : e.1 ≡ a = ap (λ (k : ℕ × ℕ). k.0) pair in
      let second : e.2 ≡ b = ap (λ (k : ℕ × ℕ). k.1) pair in
      (subst (λ (i : ℕ). IsSome (row_of s i)) first there.0.0, subst (λ (i : ℕ). IsSome (row_of t i)) second there.0.1))
      (λ q. let later : pair_of es id ≡ Some (a, b) = rw q at is in pair_is_there s t es id a b there.1 later)

  -- an identifier of the memory has a row
  pub joined_has : (s t : Rows) (m : Pairs) (id : ℕ) → AreThere s t m → IsSome (pair_of m id) → IsSome (row_of (joined j s t m) id)
  joined_has s t m id there some =
      by_option (pair_of m id)
      (λ e. let none : false ≡ true = rw e at some in absurd (cc))
      (λ pair e.
      let both = pair_is_there s t m id pair.0 pair.1 there e in
      let found = joined_found s t m id there in
      let row : row_of (joined j s t m) id ≡ row_at j s t pair.0 pair.1 = found ∙ ap (row_for s t) e in
      subst (λ (c : Cell). IsSome c) (sym row) (there_cells (row_of s pair.0) (row_of t pair.1) both.0 both.1))

  -- and each row has an identifier of the memory
  pub has_joined : (s t : Rows) (m : Pairs) (id : ℕ) → AreThere s t m → IsSome (row_of (joined j s t m) id) → IsSome (pair_of m id)
  has_joined s t m id there some =
      let found = joined_found s t m id there in
      by_option (pair_of m id)
      (λ e.
      let row : row_of (joined j s t m) id ≡ None = found ∙ ap (row_for s t) e in
      let none : false ≡ true = subst (λ (c : Cell). IsSome c) row some in
      absurd (cc))
      (λ pair e. rw e refl)

  -- what is shown has both rows
  pub shown_there : (s t : Rows) (m : Pairs) (ns nt : Rows) (a b : ℕ) → is_shown j s t m ns nt a b ≡ true → IsSome (row_of ns a) × IsSome (row_of nt b)
  shown_there s t m ns nt a b h =
      let parts = and_parts (is_some (row_at j ns nt a b)) _ h in
      cells_there (row_of ns a) (row_of nt b) parts.0

  -- the rows of kept pairs are there
  filter_there : (s t : Rows) (m : Pairs) (ns nt : Rows) (es : Pairs) → AreThere ns nt (filter (λ e. is_shown j s t m ns nt e.1 e.2) es)
  filter_there s t m ns nt [] = tt
  filter_there s t m ns nt (e ∷ es) =
      by_test (is_shown j s t m ns nt e.1 e.2)
      (λ q. rw q (shown_there s t m ns nt e.1 e.2 q, filter_there s t m ns nt es))
      (λ q. rw q (filter_there s t m ns nt es))

  -- and those of new ones
  numbered_there : (s t : Rows) (m : Pairs) (ns nt : Rows) (n : ℕ) (xs : List (ℕ × ℕ)) → AreThere ns nt (numbered n (filter (λ x. is_shown j s t m ns nt x.0 x.1 && not (has m x.0 x.1)) xs))
  numbered_there s t m ns nt n [] = tt
  numbered_there s t m ns nt n (x ∷ xs) =
      by_test (is_shown j s t m ns nt x.0 x.1 && not (has m x.0 x.1))
      (λ q. let parts = and_parts (is_shown j s t m ns nt x.0 x.1) (not (has m x.0 x.1)) q in rw q (shown_there s t m ns nt x.0 x.1 parts.0, numbered_there s t m ns nt (n + 1) xs))
      (λ q. rw q (numbered_there s t m ns nt n xs))

  -- in two lists
  append_there : (s t : Rows) (es fs : Pairs) → AreThere s t es → AreThere s t fs → AreThere s t (es ++ fs)
  append_there s t [] fs there more = more
  append_there s t (e ∷ es) fs there more = (there.0, append_there s t es fs there.1 more)

  -- so are those of all
  pub pairs_there : (s t : Rows) (m : Pairs) (ns nt : Rows) (n : ℕ) → AreThere ns nt (shown_pairs j s t m ns nt n)
  pairs_there s t m ns nt n = append_there ns nt (kept_pairs j s t m ns nt) (numbered n (new_pairs j s t m ns nt)) (filter_there s t m ns nt m) (numbered_there s t m ns nt n (all_pairs ns nt))

  -- no pair is shown twice
  new_not_old : (s t : Rows) (m : Pairs) (ns nt : Rows) (a b : ℕ) (x : ℕ × ℕ) → has m a b ≡ true → (is_shown j s t m ns nt x.0 x.1 && not (has m x.0 x.1)) ≡ true → (x.0 == a && x.1 == b) ≡ false
  new_not_old s t m ns nt a b x old new =
      by_test (x.0 == a && x.1 == b)
      (λ e.
      let same = and_parts (x.0 == a) (x.1 == b) e in
      let first = eqb-true x.0 a same.0 in
      let second = eqb-true x.1 b same.1 in
      let parts = and_parts (is_shown j s t m ns nt x.0 x.1) (not (has m x.0 x.1)) new in
      let is : has m x.0 x.1 ≡ true = ap (λ (i : ℕ). has m i x.1) first ∙ ap (λ (i : ℕ). has m a i) second ∙ old in
      let no : not true ≡ true = subst (λ (b : Bool). not b ≡ true) is parts.1 in
      absurd (cc))
      (λ e. e)

  -- each pair is shown once
  pub pairs_one : (s t : Rows) (m : Pairs) (ns nt : Rows) (n : ℕ) → IsOneToOne m → RiseFrom 0 ns → RiseFrom 0 nt → IsOneToOne (shown_pairs j s t m ns nt n)
  pairs_one s t m ns nt n one rise other_rise a b =
      let p = has_pair a b in
      let all = count_append p (kept_pairs j s t m ns nt) (numbered n (new_pairs j s t m ns nt)) in
      let kept = count_filter p (λ e. is_shown j s t m ns nt e.1 e.2) m in
      let new = often_numbered a b n (new_pairs j s t m ns nt) in
      let fewer = often_filter (λ x. is_shown j s t m ns nt x.0 x.1 && not (has m x.0 x.1)) a b (all_pairs ns nt) in
      let once = once_all a b 0 0 ns nt rise other_rise in
      let old = one a b in
      by_test (has m a b)
      (λ e.
      let none = never (λ x. is_shown j s t m ns nt x.0 x.1 && not (has m x.0 x.1)) a b (all_pairs ns nt) (λ x h. new_not_old s t m ns nt a b x e h) in
      omega (arith, all, kept, new, none, old))
      (λ e. let none = has_not m a b e in omega (arith, all, kept, new, fewer, once, none))

  -- the new memory rises
  pub pairs_rise : (s t : Rows) (m : Pairs) (ns nt : Rows) (n : ℕ) → PairsRise 0 m → PairsSound n m → PairsRise 0 (shown_pairs j s t m ns nt n)
  pairs_rise s t m ns nt n rise sound =
      append_rises 0 n (kept_pairs j s t m ns nt) (numbered n (new_pairs j s t m ns nt)) (omega arith)
      (filter_rises (λ e. is_shown j s t m ns nt e.1 e.2) 0 m rise)
      (filter_pairs_sound (λ e. is_shown j s t m ns nt e.1 e.2) n m sound)
      (numbered_rises n (new_pairs j s t m ns nt))

  -- kept: the new rows, the joined rows of the new memory and this memory are related
  pub forward_joined : (s t : Rows) (m : Pairs) (ns nt : Rows) (n : ℕ) → PairsRise 0 m → IsOneToOne m → PairsSound n m → RiseFrom 0 ns → RiseFrom 0 nt → IsJoined j ns nt (joined j ns nt (shown_pairs j s t m ns nt n)) (shown_pairs j s t m ns nt n)
  forward_joined s t m ns nt n rise one sound first_rise second_rise = record {
    rises = pairs_rise s t m ns nt n rise sound;
    one = pairs_one s t m ns nt n one first_rise second_rise;
    there = pairs_there s t m ns nt n;
    rows = refl;
  }

  -- below
  new_below : (s t : Rows) (m : Pairs) (ns nt : Rows) (n : ℕ) (xs : List (ℕ × ℕ)) → RowsSound n ns → RowsSound n nt → BothBelow n (filter (λ x. is_shown j s t m ns nt x.0 x.1 && not (has m x.0 x.1)) xs)
  new_below s t m ns nt n [] sound other_sound = tt
  new_below s t m ns nt n (x ∷ xs) sound other_sound =
      by_test (is_shown j s t m ns nt x.0 x.1 && not (has m x.0 x.1))
      (λ q.
      let parts = and_parts (is_shown j s t m ns nt x.0 x.1) (not (has m x.0 x.1)) q in
      let both = shown_there s t m ns nt x.0 x.1 parts.0 in
      rw q ((below_some n ns x.0 sound both.0, below_some n nt x.1 other_sound both.1), new_below s t m ns nt n xs sound other_sound))
      (λ q. rw q (new_below s t m ns nt n xs sound other_sound))

  -- the new memory is below the next identifier
  pub pairs_sound : (s t : Rows) (m : Pairs) (ns nt : Rows) (n : ℕ) → PairsSound n m → RowsSound n ns → RowsSound n nt → PairsSound (n + length (new_pairs j s t m ns nt)) (shown_pairs j s t m ns nt n)
  pairs_sound s t m ns nt n sound first_sound second_sound =
      let next = n + length (new_pairs j s t m ns nt) in
      append_pairs_sound next (kept_pairs j s t m ns nt) (numbered n (new_pairs j s t m ns nt))
      (pairs_more n next (omega arith) (kept_pairs j s t m ns nt) (filter_pairs_sound (λ e. is_shown j s t m ns nt e.1 e.2) n m sound))
      (numbered_sound n n (new_pairs j s t m ns nt) (omega arith) (new_below s t m ns nt n (all_pairs ns nt) first_sound second_sound))

  -- and so is the new target
  pub target_sound : (s t : Rows) (m : Pairs) (ns nt : Rows) (n : ℕ) → PairsSound n m → RowsSound n ns → RowsSound n nt → RowsSound (n + length (new_pairs j s t m ns nt)) (joined j ns nt (shown_pairs j s t m ns nt n))
  target_sound s t m ns nt n sound first_sound second_sound =
      let next = n + length (new_pairs j s t m ns nt) in
      joined_rows_sound next ns nt (shown_pairs j s t m ns nt n)
      (rows_more n next (omega arith) ns first_sound) (rows_more n next (omega arith) nt second_sound)
      (pairs_sound s t m ns nt n sound first_sound second_sound)

  -- a row that the old target hasn't was drawn
  pub shown_drawn : (s t r : Rows) (m : Pairs) (ns nt : Rows) (n id : ℕ) → IsJoined j s t r m → IsSome (row_of (joined j ns nt (shown_pairs j s t m ns nt n)) id) → IsSome (row_of r id) ⊎ (n ≤ id)
  shown_drawn s t r m ns nt n id is some =
      let listed = has_joined ns nt (shown_pairs j s t m ns nt n) id (pairs_there s t m ns nt n) some in
      elim (append_pair (kept_pairs j s t m ns nt) (numbered n (new_pairs j s t m ns nt)) id listed) [
        | inl old ↦
            let entry = filter_pair (λ e. is_shown j s t m ns nt e.1 e.2) m id old in
            inl (subst (λ (rows : Rows). IsSome (row_of rows id)) (sym is.rows) (joined_has s t m id is.there entry))
        | inr new ↦ inr (numbered_pair n (new_pairs j s t m ns nt) id new)
      ]

  -- still
  pub still_shown : (there h k : Bool) → there ≡ true → h ≡ true → (there && ((h && not k) || (k && not (k && not h)))) ≡ true
  still_shown there h true e f = rw (e, f) refl
  still_shown there h false e f = rw (e, f) refl

  -- and no other pair is
  pub still_none : (there h k : Bool) → ((there && ((h && not k) || (k && not (k && not h)))) && not h) ≡ false
  still_none true true true = refl
  still_none true true false = refl
  still_none true false true = refl
  still_none true false false = refl
  still_none false true k = refl
  still_none false false k = refl

  -- so all entries are kept
  still_kept : (s t : Rows) (m es : Pairs) → AllIn m es → AreThere s t es → filter (λ e. is_shown j s t m s t e.1 e.2) es ≡ es
  still_kept s t m [] old there = refl
  still_kept s t m (e ∷ es) old there =
      let row = there_cells (row_of s e.1) (row_of t e.2) there.0.0 there.0.1 in
      let is = still_shown (is_some (row_at j s t e.1 e.2)) (has m e.1 e.2) (matches j s t e.1 e.2) row old.0 in
      rw is (ap (λ (rest : Pairs). e ∷ rest) (still_kept s t m es old.1 there.1))

  -- and none is new
  still_new : (s t : Rows) (m : Pairs) (xs : List (ℕ × ℕ)) → filter (λ x. is_shown j s t m s t x.0 x.1 && not (has m x.0 x.1)) xs ≡ []
  still_new s t m [] = refl
  still_new s t m (x ∷ xs) =
      let none = still_none (is_some (row_at j s t x.0 x.1)) (has m x.0 x.1) (matches j s t x.0 x.1) in
      rw none (still_new s t m xs)

  -- the old source shows no new pair
  pub none_new : (s t : Rows) (m : Pairs) → new_pairs j s t m s t ≡ []
  none_new s t m = still_new s t m (all_pairs s t)

  -- so the memory stays
  pub same_pairs : (s t : Rows) (m : Pairs) (n : ℕ) → AreThere s t m → shown_pairs j s t m s t n ≡ m
  same_pairs s t m n there =
      ap (λ (xs : List (ℕ × ℕ)). kept_pairs j s t m s t ++ numbered n xs) (none_new s t m)
      ∙ append-nil (kept_pairs j s t m s t)
      ∙ still_kept s t m m (all_in m) there
