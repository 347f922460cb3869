-- The pairs that the rows of a new joined table get, and the rows that are there at the end.
use Rattle.std.specs.Option.{option_map}
use Rattle.std.proofs.Common.{◌≡◌, ℕ, ◌+◌, ◌<◌, ◌≤◌, ◌==◌, ◌⊎◌, List, [], ◌∷◌, length, count_by, if◌then◌else◌, Bool, true, false, Option, Some, None, IsSome, refl, ap, sym, ◌∙◌, subst, arith}
use Rattle.std.proofs.lemmas.Bool.{and_parts, ne_eqb, eqb-true, eq-eqb}
use mathlib.Core.Logic.{inl, inr}
use Rattle.par_base.specs.declared.value.Value.{Value}
use Rattle.row_store.specs.Rows.{Rows, RiseFrom, AreBelow, row_of}
use Rattle.row_store.specs.inner.FoundRows.{below_more}
use Rattle.id_memory.specs.Pairs.{Pairs, IsOneToOne, pair_of, has_pair}
use Rattle.op_law.specs.Tables.{RowsWide}
use Rattle.op_law.specs.Sound.{PairsSound}
use Rattle.op_law.proofs.SoundLaws.{wide_at}
use Rattle.row_parts.specs.Places.{pick as part, row_of_both as joined_row, ArePartition}
use Rattle.row_parts.specs.RowCells.{Cell, by_test, by_option}
use Rattle.row_parts.specs.inner.PlaceLemmas.{length-pick, first_join, second_join}
use Rattle.pair_rows.specs.inner.Numbers.{count_cons}
use Rattle.pair_rows.specs.inner.PairLemmas.{count_yes, count_no, has_not}
use Rattle.pair_rows.specs.Shown.{Joining, join_cells, row_at, IsJoined, has}
use Rattle.pair_rows.specs.inner.ShownLaws.{row_for, joined_found}
use Rattle.pair_rows.specs.inner.FoundPairs.{old_pair}
use Rattle.pair_rows.specs.Given.{unchanged, kept_entry, kept_in}
use Rattle.op_cond_join.specs.Assigned.{Assigning, Placed, first_got, second_got, last_got, place_changed, place_by, place_row, assigned, ending, beginning}
use Rattle.pair_rows.specs.inner.TakenPairs.{FirstsBelow, firsts_weaker, firsts_behind, has_behind, has_before, not_taken, unchanged_pair, unchanged_row}
use Rattle.pair_rows.specs.Getting.{IsGot, got_is, under, OwnIs, side_is}

-- the old source, target and memory
module _ (j : Joining) (parts : ArePartition j.first j.second) (s t r : Rows) (m : Pairs) (is : IsJoined j s t r m) (wide : RowsWide (length j.first) s) (other_wide : RowsWide (length j.second) t) where
  -- what holds of what is assigned
  pub record Ready (n : ℕ) (d : Assigning) : Type 0 where
    pub next : n ≤ d.next
    pub first_rise : RiseFrom 0 d.first
    pub first_below : AreBelow d.first d.next
    pub first_keeps : (id : ℕ) (row : List Value) → row_of s id ≡ Some row → row_of d.first id ≡ Some row
    pub second_rise : RiseFrom 0 d.second
    pub second_below : AreBelow d.second d.next
    pub second_keeps : (id : ℕ) (row : List Value) → row_of t id ≡ Some row → row_of d.second id ≡ Some row
    pub taken_below : FirstsBelow d.next d.taken

  -- how it grows
  pub record Grown (n : ℕ) (d e : Assigning) : Type 0 where
    pub next : d.next ≤ e.next
    pub first_keeps : (id : ℕ) (row : List Value) → row_of d.first id ≡ Some row → row_of e.first id ≡ Some row
    pub second_keeps : (id : ℕ) (row : List Value) → row_of d.second id ≡ Some row → row_of e.second id ≡ Some row
    pub first_drawn : (id : ℕ) → IsSome (row_of e.first id) → IsSome (row_of d.first id) ⊎ (n ≤ id)
    pub second_drawn : (id : ℕ) → IsSome (row_of e.second id) → IsSome (row_of d.second id) ⊎ (n ≤ id)
    pub first_wide : RowsWide (length j.first) d.first → RowsWide (length j.first) e.first
    pub second_wide : RowsWide (length j.second) d.second → RowsWide (length j.second) e.second

  -- nothing grows
  grown_same : (n : ℕ) (d : Assigning) → Grown n d d
  grown_same n d = record {
    next = omega arith;
    first_keeps = λ id row at. at;
    second_keeps = λ id row at. at;
    first_drawn = λ id some. inl some;
    second_drawn = λ id some. inl some;
    first_wide = λ h. h;
    second_wide = λ h. h;
  }

  -- it grows twice
  grown_on : (n : ℕ) (d e f : Assigning) → Grown n d e → Grown n e f → Grown n d f
  grown_on n d e f one other = record {
    next = let a = one.next in let b = other.next in omega (arith, a, b);
    first_keeps = λ id row at. other.first_keeps id row (one.first_keeps id row at);
    second_keeps = λ id row at. other.second_keeps id row (one.second_keeps id row at);
    first_drawn = λ id some. elim (other.first_drawn id some) [ inl old ↦ one.first_drawn id old | inr new ↦ inr new ];
    second_drawn = λ id some. elim (other.second_drawn id some) [ inl old ↦ one.second_drawn id old | inr new ↦ inr new ];
    first_wide = λ h. other.first_wide (one.first_wide h);
    second_wide = λ h. other.second_wide (one.second_wide h);
  }

  -- a placed row: its pair's rows are its parts
  pub record IsPlaced (n : ℕ) (d : Assigning) (x : ℕ × List Value) (p : Placed) : Type 0 where
    pub ready : Ready n p.after
    pub grown : Grown n d p.after
    pub first : row_of p.after.first p.first ≡ Some (part j.first x.1)
    pub second : row_of p.after.second p.second ≡ Some (part j.second x.1)

  -- the old first row has the part
  own_first : (n : ℕ) (d : Assigning) (p : ℕ) → Ready n d → OwnIs j.first (row_of r p) (option_map (λ pair. pair.0) (pair_of m p)) d.first
  own_first n d p ready row k at number =
      by_option (pair_of m p)
      (λ e. let none : ◌≡◌ {A = Option ℕ} None (Some k) = rw e at number in absurd (cc))
      (λ pair e.
      let same : ◌≡◌ {A = Option ℕ} (Some pair.0) (Some k) = rw e at number in
      let id : pair.0 ≡ k = cc in
      let found = ready.first_keeps pair.0 (part j.first row) (old_pair j parts s t r m is wide other_wide p row pair at e).0 in
      subst (λ (i : ℕ). row_of d.first i ≡ Some (part j.first row)) id found)

  -- the old second row has the part
  own_second : (n : ℕ) (d : Assigning) (p : ℕ) → Ready n d → OwnIs j.second (row_of r p) (option_map (λ pair. pair.1) (pair_of m p)) d.second
  own_second n d p ready row k at number =
      by_option (pair_of m p)
      (λ e. let none : ◌≡◌ {A = Option ℕ} None (Some k) = rw e at number in absurd (cc))
      (λ pair e.
      let same : ◌≡◌ {A = Option ℕ} (Some pair.1) (Some k) = rw e at number in
      let id : pair.1 ≡ k = cc in
      let found = ready.second_keeps pair.1 (part j.second row) (old_pair j parts s t r m is wide other_wide p row pair at e).1 in
      subst (λ (i : ℕ). row_of d.second i ≡ Some (part j.second row)) id found)

  -- the three rows that are found or drawn for a changed row
  pub first_is : (n : ℕ) (d : Assigning) (x : ℕ × List Value) → Ready n d → IsGot d.first (part j.first x.1) d.next (first_got j r m d x)
  first_is n d x ready = side_is j.first (row_of r x.0) (option_map (λ pair. pair.0) (pair_of m x.0)) x.1 d.first d.next ready.first_rise ready.first_below (own_first n d x.0 ready)

  -- the second row
  pub second_is : (n : ℕ) (d : Assigning) (x : ℕ × List Value) → Ready n d → IsGot d.second (part j.second x.1) (first_got j r m d x).next (second_got j r m d x)
  second_is n d x ready =
      let next = (first_is n d x ready).next in
      side_is j.second (row_of r x.0) (option_map (λ pair. pair.1) (pair_of m x.0)) x.1 d.second (first_got j r m d x).next ready.second_rise
      (below_more d.second d.next (first_got j r m d x).next next ready.second_below) (own_second n d x.0 ready)

  -- a row that was chosen
  chosen_is : (b : Bool) (k id : ℕ) → ◌≡◌ {A = Option ℕ} (if b then None else Some k) (Some id) → k ≡ id
  chosen_is true k id e = absurd (cc)
  chosen_is false k id e = cc

  -- the first row where the pair is taken
  pub last_is : (n : ℕ) (d : Assigning) (x : ℕ × List Value) → Ready n d → IsGot (first_got j r m d x).rows (part j.first x.1) (second_got j r m d x).next (last_got j r m d x)
  last_is n d x ready =
      let a = first_got j r m d x in
      let b = second_got j r m d x in
      let first = first_is n d x ready in
      let second = second_is n d x ready in
      got_is (if has d.taken a.id b.id then None else Some a.id) a.rows (part j.first x.1) b.next first.rise
      (below_more a.rows a.next b.next second.next first.below)
      (λ id e. let same = chosen_is (has d.taken a.id b.id) a.id id e in subst (λ (i : ℕ). row_of a.rows i ≡ Some (part j.first x.1)) same first.found)

  -- a changed row has a pair of its parts
  changed_is : (n : ℕ) (d : Assigning) (x : ℕ × List Value) → Ready n d → IsPlaced n d x (place_changed j r m d x)
  changed_is n d x ready =
      let a = first_got j r m d x in
      let b = second_got j r m d x in
      let c = last_got j r m d x in
      let first = first_is n d x ready in
      let second = second_is n d x ready in
      let last = last_is n d x ready in
      let start = ready.next in
      let one = first.next in
      let two = second.next in
      let three = last.next in
      record {
        ready = record {
          next = omega (arith, start, one, two, three);
          first_rise = last.rise;
          first_below = last.below;
          first_keeps = λ id row at. last.keeps id row (first.keeps id row (ready.first_keeps id row at));
          second_rise = second.rise;
          second_below = below_more b.rows b.next c.next three second.below;
          second_keeps = λ id row at. second.keeps id row (ready.second_keeps id row at);
          taken_below = firsts_behind c.next d.taken (x.0, c.id, b.id) (firsts_weaker d.next c.next d.taken (omega (arith, one, two, three)) ready.taken_below) (under c.rows c.next c.id (part j.first x.1) last.below last.found);
        };
        grown = record {
          next = omega (arith, one, two, three);
          first_keeps = λ id row at. last.keeps id row (first.keeps id row at);
          second_keeps = second.keeps;
          first_drawn = λ id some. elim (last.drawn id some) [
            | inl old ↦ elim (first.drawn id old) [ inl older ↦ inl older | inr new ↦ inr (omega (arith, start, new)) ]
            | inr new ↦ inr (omega (arith, start, one, two, new))
          ];
          second_drawn = λ id some. elim (second.drawn id some) [ inl old ↦ inl old | inr new ↦ inr (omega (arith, start, one, new)) ];
          first_wide = λ h. last.wide (length j.first) (length-pick j.first x.1) (first.wide (length j.first) (length-pick j.first x.1) h);
          second_wide = λ h. second.wide (length j.second) (length-pick j.second x.1) h;
        };
        first = last.found;
        second = second.found;
      }

  -- both kinds of rows
  placed_by : (n : ℕ) (d : Assigning) (x : ℕ × List Value) (o : Option (ℕ × ℕ)) → unchanged (row_of r x.0) (pair_of m x.0) x.1 ≡ o → Ready n d → IsPlaced n d x (place_by j r m d x o)
  placed_by n d x (Some pair) e ready =
      let both = old_pair j parts s t r m is wide other_wide x.0 x.1 pair (unchanged_row (row_of r x.0) (pair_of m x.0) x.1 pair e) (unchanged_pair (row_of r x.0) (pair_of m x.0) x.1 pair e) in
      record {
        ready = ready;
        grown = grown_same n d;
        first = ready.first_keeps pair.0 (part j.first x.1) both.0;
        second = ready.second_keeps pair.1 (part j.second x.1) both.1;
      }
  placed_by n d x None e ready = changed_is n d x ready

  -- each row
  pub placed : (n : ℕ) (d : Assigning) (x : ℕ × List Value) → Ready n d → IsPlaced n d x (place_row j r m d x)
  placed n d x ready = placed_by n d x (unchanged (row_of r x.0) (pair_of m x.0) x.1) refl ready

  -- the same at the end
  pub end_ready : (n : ℕ) (d : Assigning) (xs : Rows) → Ready n d → Ready n (ending j r m d xs)
  end_ready n d [] ready = ready
  end_ready n d (x ∷ xs) ready = end_ready n (place_row j r m d x).after xs (placed n d x ready).ready

  -- how it grew
  pub end_grown : (n : ℕ) (d : Assigning) (xs : Rows) → Ready n d → Grown n d (ending j r m d xs)
  end_grown n d [] ready = grown_same n d
  end_grown n d (x ∷ xs) ready =
      let p = placed n d x ready in
      grown_on n d (place_row j r m d x).after (ending j r m d (x ∷ xs)) p.grown (end_grown n (place_row j r m d x).after xs p.ready)

  -- no pair is taken twice
  fresh_not : (n : ℕ) (d : Assigning) (x : ℕ × List Value) → Ready n d → has d.taken (place_changed j r m d x).first (place_changed j r m d x).second ≡ false
  fresh_not n d x ready =
      let a = first_got j r m d x in
      let b = second_got j r m d x in
      let one = (first_is n d x ready).next in
      let two = (second_is n d x ready).next in
      by_test (has d.taken a.id b.id)
      (λ e. rw e (not_taken d.next b.next b.id d.taken (omega (arith, one, two)) ready.taken_below))
      (λ e. rw e e)

  -- how often a pair may still be given
  abbrev room : ℕ → ℕ → Pairs → ℕ
  room a b taken = if has taken a b then 0 else 1

  -- a row takes a pair at most once
  count_by_o : (n a b : ℕ) (d : Assigning) (x : ℕ × List Value) (xs : Rows) (o : Option (ℕ × ℕ)) → unchanged (row_of r x.0) (pair_of m x.0) x.1 ≡ o → Ready n d
      → (count_by (has_pair a b) (assigned j r m (place_by j r m d x o).after xs) ≤ count_by (has_pair a b) (kept_in r m xs) + room a b (place_by j r m d x o).after.taken)
      → count_by (has_pair a b) ((x.0, (place_by j r m d x o).first, (place_by j r m d x o).second) ∷ assigned j r m (place_by j r m d x o).after xs) ≤ count_by (has_pair a b) (kept_entry x.0 o (kept_in r m xs)) + room a b d.taken
  count_by_o n a b d x xs (Some pair) e ready rest =
      let one = count_cons (has_pair a b) (x.0, pair.0, pair.1) (assigned j r m d xs) in
      let other = count_cons (has_pair a b) (x.0, pair.0, pair.1) (kept_in r m xs) in
      omega (arith, one, other, rest)
  count_by_o n a b d x xs None e ready rest =
      let p = place_changed j r m d x in
      let free = fresh_not n d x ready in
      by_test (has_pair a b (x.0, p.first, p.second))
      (λ q.
      let more = count_yes (has_pair a b) (x.0, p.first, p.second) (assigned j r m p.after xs) q in
      let same = and_parts (p.first == a) (p.second == b) q in
      let first = eqb-true p.first a same.0 in
      let second = eqb-true p.second b same.1 in
      let not_there : has d.taken a b ≡ false = sym (ap (λ (i : ℕ). has d.taken i p.second) first ∙ ap (λ (i : ℕ). has d.taken a i) second) ∙ free in
      let there = has_behind d.taken (x.0, p.first, p.second) a b q in
      let none : room a b p.after.taken ≡ 0 = rw there refl in
      let some : room a b d.taken ≡ 1 = rw not_there refl in
      omega (arith, more, none, some, rest))
      (λ q.
      let more = count_no (has_pair a b) (x.0, p.first, p.second) (assigned j r m p.after xs) q in
      let as_before = has_before d.taken (x.0, p.first, p.second) a b q in
      let same : room a b p.after.taken ≡ room a b d.taken = rw as_before refl in
      omega (arith, more, same, rest))

  -- so do all rows
  count_assigned : (n a b : ℕ) (d : Assigning) (xs : Rows) → Ready n d → count_by (has_pair a b) (assigned j r m d xs) ≤ count_by (has_pair a b) (kept_in r m xs) + room a b d.taken
  count_assigned n a b d [] ready = omega arith
  count_assigned n a b d (x ∷ xs) ready =
      count_by_o n a b d x xs (unchanged (row_of r x.0) (pair_of m x.0) x.1) refl ready
      (count_assigned n a b (place_row j r m d x).after xs (placed n d x ready).ready)

  -- kept pairs are those of the old memory
  one_entry : (es : Pairs) (p a b : ℕ) → pair_of es p ≡ Some (a, b) → 1 ≤ count_by (has_pair a b) es
  one_entry [] p a b at = absurd (cc)
  one_entry (e ∷ es) p a b at =
      by_test (e.0 == p)
      (λ q.
      let pairs : ◌≡◌ {A = Option (ℕ × ℕ)} (Some (e.1, e.2)) (Some (a, b)) = rw q at at in
      let pair : ◌≡◌ {A = ℕ × ℕ} (e.1, e.2) (a, b) = cc in
      let first : (e.1 == a) ≡ true = let own = eq-eqb e.1 e.1 refl in subst (λ (i : ℕ). (e.1 == i) ≡ true) (ap (λ (k : ℕ × ℕ). k.0) pair) own in
      let second : (e.2 == b) ≡ true = let own = eq-eqb e.2 e.2 refl in subst (λ (i : ℕ). (e.2 == i) ≡ true) (ap (λ (k : ℕ × ℕ). k.1) pair) own in
      let both : has_pair a b e ≡ true = rw (first, second) refl in
      let more = count_yes (has_pair a b) e es both in
      omega (arith, more))
      (λ q. let later : pair_of es p ≡ Some (a, b) = rw q at at in let ih = one_entry es p a b later in let more = count_cons (has_pair a b) e es in omega (arith, ih, more))

  -- an old memory has no pair at two identifiers
  two_entries : (es : Pairs) (p q a b : ℕ) → p < q → pair_of es p ≡ Some (a, b) → pair_of es q ≡ Some (a, b) → 2 ≤ count_by (has_pair a b) es
  two_entries [] p q a b h at other = absurd (cc)
  two_entries (e ∷ es) p q a b h at other =
      let head : (id : ℕ) → (e.0 == id) ≡ true → pair_of (e ∷ es) id ≡ Some (a, b) → count_by (has_pair a b) (e ∷ es) ≡ 1 + count_by (has_pair a b) es =
      λ id u is.
      let pairs : ◌≡◌ {A = Option (ℕ × ℕ)} (Some (e.1, e.2)) (Some (a, b)) = rw u at is in
      let pair : ◌≡◌ {A = ℕ × ℕ} (e.1, e.2) (a, b) = cc in
      let first : (e.1 == a) ≡ true = let own = eq-eqb e.1 e.1 refl in subst (λ (i : ℕ). (e.1 == i) ≡ true) (ap (λ (k : ℕ × ℕ). k.0) pair) own in
      let second : (e.2 == b) ≡ true = let own = eq-eqb e.2 e.2 refl in subst (λ (i : ℕ). (e.2 == i) ≡ true) (ap (λ (k : ℕ × ℕ). k.1) pair) own in
      let both : has_pair a b e ≡ true = rw (first, second) refl in
      count_yes (has_pair a b) e es both in
      by_test (e.0 == p)
      (λ u.
      let same = eqb-true e.0 p u in
      let away = ne_eqb e.0 q (λ v. absurd (omega (arith, same, v, h))) in
      let later : pair_of es q ≡ Some (a, b) = rw away at other in
      let one = one_entry es q a b later in
      let more = head p u at in
      omega (arith, one, more))
      (λ u.
      let later : pair_of es p ≡ Some (a, b) = rw u at at in
      by_test (e.0 == q)
      (λ v. let one = one_entry es p a b later in let more = head q v other in omega (arith, one, more))
      (λ v. let last : pair_of es q ≡ Some (a, b) = rw v at other in let ih = two_entries es p q a b h later last in let more = count_cons (has_pair a b) e es in omega (arith, ih, more)))

  -- no other row keeps the pair
  kept_none_by : (p a b : ℕ) (x : ℕ × List Value) (xs : Rows) (o : Option (ℕ × ℕ)) → unchanged (row_of r x.0) (pair_of m x.0) x.1 ≡ o → pair_of m p ≡ Some (a, b) → p < x.0 → count_by (has_pair a b) (kept_in r m xs) ≡ 0 → count_by (has_pair a b) (kept_entry x.0 o (kept_in r m xs)) ≡ 0
  kept_none_by p a b x xs None e at h rest = rest
  kept_none_by p a b x xs (Some pair) e at h rest =
      let is_pair = unchanged_pair (row_of r x.0) (pair_of m x.0) x.1 pair e in
      by_test (has_pair a b (x.0, pair.0, pair.1))
      (λ q.
      let same = and_parts (pair.0 == a) (pair.1 == b) q in
      let first = eqb-true pair.0 a same.0 in
      let second = eqb-true pair.1 b same.1 in
      let there : pair_of m x.0 ≡ Some (a, b) = is_pair ∙ ap (λ (i : ℕ). Some (i, pair.1)) first ∙ ap (λ (i : ℕ). Some (a, i)) second in
      let two = two_entries m p x.0 a b h at there in
      let one = is.one a b in
      absurd (omega (arith, one, two)))
      (λ q. count_no (has_pair a b) (x.0, pair.0, pair.1) (kept_in r m xs) q ∙ rest)

  -- so none does
  kept_none : (p a b k : ℕ) (xs : Rows) → pair_of m p ≡ Some (a, b) → p < k → RiseFrom k xs → count_by (has_pair a b) (kept_in r m xs) ≡ 0
  kept_none p a b k [] at h rise = refl
  kept_none p a b k (x ∷ xs) at h rise =
      let low = rise.0 in
      kept_none_by p a b x xs (unchanged (row_of r x.0) (pair_of m x.0) x.1) refl at (omega (arith, h, low))
      (kept_none p a b (x.0 + 1) xs at (omega (arith, h, low)) rise.1)

  -- a row keeps a pair once
  kept_one_by : (a b : ℕ) (x : ℕ × List Value) (xs : Rows) (o : Option (ℕ × ℕ)) → unchanged (row_of r x.0) (pair_of m x.0) x.1 ≡ o → RiseFrom (x.0 + 1) xs → count_by (has_pair a b) (kept_in r m xs) ≤ 1 → count_by (has_pair a b) (kept_entry x.0 o (kept_in r m xs)) ≤ 1
  kept_one_by a b x xs None e rise rest = rest
  kept_one_by a b x xs (Some pair) e rise rest =
      let is_pair = unchanged_pair (row_of r x.0) (pair_of m x.0) x.1 pair e in
      by_test (has_pair a b (x.0, pair.0, pair.1))
      (λ q.
      let same = and_parts (pair.0 == a) (pair.1 == b) q in
      let first = eqb-true pair.0 a same.0 in
      let second = eqb-true pair.1 b same.1 in
      let there : pair_of m x.0 ≡ Some (a, b) = is_pair ∙ ap (λ (i : ℕ). Some (i, pair.1)) first ∙ ap (λ (i : ℕ). Some (a, i)) second in
      let none = kept_none x.0 a b (x.0 + 1) xs there (omega arith) rise in
      let more = count_yes (has_pair a b) (x.0, pair.0, pair.1) (kept_in r m xs) q in
      omega (arith, none, more))
      (λ q. let same = count_no (has_pair a b) (x.0, pair.0, pair.1) (kept_in r m xs) q in omega (arith, same, rest))

  -- so each pair is kept once
  kept_one : (a b k : ℕ) (xs : Rows) → RiseFrom k xs → count_by (has_pair a b) (kept_in r m xs) ≤ 1
  kept_one a b k [] rise = omega arith
  kept_one a b k (x ∷ xs) rise = kept_one_by a b x xs (unchanged (row_of r x.0) (pair_of m x.0) x.1) refl rise.1 (kept_one a b (x.0 + 1) xs rise.1)

  -- at the start
  kept_below_by : (n : ℕ) (x : ℕ × List Value) (xs : Rows) (o : Option (ℕ × ℕ)) → unchanged (row_of r x.0) (pair_of m x.0) x.1 ≡ o → FirstsBelow n m → FirstsBelow n (kept_in r m xs) → FirstsBelow n (kept_entry x.0 o (kept_in r m xs))
  kept_below_by n x xs None e all rest = rest
  kept_below_by n x xs (Some pair) e all rest = (pair_below m x.0 all (unchanged_pair (row_of r x.0) (pair_of m x.0) x.1 pair e), rest)
    where
      pair_below : (es : Pairs) (p : ℕ) → FirstsBelow n es → pair_of es p ≡ Some pair → pair.0 < n
      pair_below [] p all at = absurd (cc)
      pair_below (e ∷ es) p all at =
          by_test (e.0 == p)
          (λ q.
          let pairs : ◌≡◌ {A = Option (ℕ × ℕ)} (Some (e.1, e.2)) (Some pair) = rw q at at in
          let same : ◌≡◌ {A = ℕ × ℕ} (e.1, e.2) pair = cc in
          let first : e.1 ≡ pair.0 = ap (λ (k : ℕ × ℕ). k.0) same in
          let low = all.0 in
          omega (arith, first, low))
          (λ q. let later : pair_of es p ≡ Some pair = rw q at at in pair_below es p all.1 later)

  -- first identifiers of kept pairs are below
  kept_below : (n : ℕ) (xs : Rows) → FirstsBelow n m → FirstsBelow n (kept_in r m xs)
  kept_below n [] all = tt
  kept_below n (x ∷ xs) all = kept_below_by n x xs (unchanged (row_of r x.0) (pair_of m x.0) x.1) refl all (kept_below n xs all)

  -- first identifiers of sound pairs are below
  firsts_of : (n : ℕ) (es : Pairs) → PairsSound n es → FirstsBelow n es
  firsts_of n [] sound = tt
  firsts_of n (e ∷ es) sound = (sound.0.1, firsts_of n es sound.1)

  -- at the start
  pub start_ready : (n : ℕ) (near : Rows) → RiseFrom 0 s → RiseFrom 0 t → AreBelow s n → AreBelow t n → PairsSound n m → Ready n (beginning s t r m near n)
  start_ready n near rise other_rise below other_below sound = record {
    next = omega arith;
    first_rise = rise;
    first_below = below;
    first_keeps = λ id row at. at;
    second_rise = other_rise;
    second_below = other_below;
    second_keeps = λ id row at. at;
    taken_below = kept_below n near (firsts_of n m sound);
  }

  -- so no pair is given twice
  pub assigned_one : (n : ℕ) (near : Rows) → RiseFrom 0 near → Ready n (beginning s t r m near n) → IsOneToOne (assigned j r m (beginning s t r m near n) near)
  assigned_one n near rise ready a b =
      let most = count_assigned n a b (beginning s t r m near n) near ready in
      let once = kept_one a b 0 near rise in
      by_test (has (kept_in r m near) a b)
      (λ e. let none : room a b (kept_in r m near) ≡ 0 = rw e refl in omega (arith, most, once, none))
      (λ e.
      let some : room a b (kept_in r m near) ≡ 1 = rw e refl in
      let none = has_not (kept_in r m near) a b e in
      omega (arith, most, none, some))
