-- The entry that each row of a new outer join gets.
use Rattle.std.specs.Option.{option_map}
use Rattle.std.proofs.Common.{◌≡◌, ℕ, ◌+◌, ◌<◌, ◌≤◌, ◌==◌, ◌⊎◌, List, length, count_by, if◌then◌else◌, Bool, true, false, Option, Some, None, IsSome, refl, ap, sym, ◌∙◌, subst, arith}
use Rattle.std.proofs.lemmas.Bool.{and_parts}
use mathlib.Core.Logic.{inl, inr}
use Rattle.par_base.specs.declared.value.Value.{Value}
use Rattle.row_store.specs.Rows.{Rows, row_of}
use Rattle.row_store.specs.inner.FoundRows.{below_more}
use Rattle.id_memory.specs.Pairs.{Pairs, IsOneToOne, pair_of, has_pair}
use Rattle.op_law.specs.Tables.{RowsWide}
use Rattle.op_law.specs.Sound.{IsBelow, ValuesSound, RowsSound, PairsSound}
use Rattle.op_law.proofs.SoundLaws.{rows_more}
use Rattle.row_parts.specs.Places.{pick as part, ArePartition}
use Rattle.row_parts.specs.RowCells.{by_test}
use Rattle.row_parts.specs.inner.PlaceLemmas.{length-pick, pick_sound}
use Rattle.pair_rows.specs.Halves.{first_of, second_of}
use Rattle.pair_rows.specs.Shown.{Joining, has}
use Rattle.pair_rows.specs.Given.{least, unchanged, got, own}
use Rattle.pair_rows.specs.Getting.{under}
use Rattle.pair_rows.proofs.GivenLaws.{got_rises}
use Rattle.pair_rows.specs.inner.PairLemmas.{has_not}
use Rattle.pair_rows.specs.inner.TakenPairs.{unchanged_pair, unchanged_row}
use Rattle.pair_rows.specs.inner.FoundPairs.{old_pair}
use Rattle.outer_law.specs.Entries.{with_absent, with_half, IsOuter}
use Rattle.outer_law.specs.Placed.{half_there, is_present, Placing, Placed, parts_of, first_own, second_own, first_both, first_got, second_both, second_got, last_got, first_more, second_more, place_both, own_alone, first_alone, second_alone, place_first, place_second, place_halves, place_by, place_row}
use Rattle.outer_law.proofs.AbsentLaws.{absent_other, absent_wide}
use Rattle.outer_law.proofs.CountingLaws.{has_some, count_less}
use Rattle.outer_law.proofs.HalfLaws.{Own, HalfReady, Took, MayTake, took_got, took_twice, took_weaker, took_alone}
use Rattle.outer_law.proofs.ChoiceLaws.{absent_part, absent_keeps, one_more, own_gives, there_gives, alone_gives, unused_by, entry_sound, or_gives}
use Rattle.outer_law.proofs.StepLaws.{ready_later, full_step, alone_step, absent_step}

-- the old source, target and memory, and the kept entries
module _ (j : Joining) (parts : ArePartition j.first j.second) (s t r : Rows) (m kept : Pairs) (old : IsOuter j s t r m) (wide : RowsWide (length j.first) s) (other_wide : RowsWide (length j.second) t) where
  -- the halves of an old entry are the parts of the old row
  pub old_halves : (p : ℕ) (o : List Value) (pair : ℕ × ℕ) → row_of r p ≡ Some o → pair_of m p ≡ Some pair → (row_of (with_absent j.first s) pair.0 ≡ Some (part j.first o)) × (row_of (with_absent j.second t) pair.1 ≡ Some (part j.second o))
  old_halves p o pair at pairs = old_pair j parts (with_absent j.first s) (with_absent j.second t) r m old.joined (absent_wide j.first s wide) (absent_wide j.second t other_wide) p o pair at pairs

  -- what holds of what is placed
  pub record Ready (n k : ℕ) (d : Placing) : Type 0 where
    pub next : n ≤ d.next
    pub first : HalfReady first_of second_of s d.first d.first_shared m kept d.taken d.next k
    pub second : HalfReady second_of first_of t d.second d.second_shared m kept d.taken d.next k
    pub one : IsOneToOne d.taken

  -- how it grows
  pub record Grown (n : ℕ) (d e : Placing) : Type 0 where
    pub next : d.next ≤ e.next
    pub first_keeps : (id : ℕ) (row : List Value) → row_of d.first id ≡ Some row → row_of e.first id ≡ Some row
    pub second_keeps : (id : ℕ) (row : List Value) → row_of d.second id ≡ Some row → row_of e.second id ≡ Some row
    pub first_drawn : (id : ℕ) → IsSome (row_of e.first id) → IsSome (row_of d.first id) ⊎ (n ≤ id)
    pub second_drawn : (id : ℕ) → IsSome (row_of e.second id) → IsSome (row_of d.second id) ⊎ (n ≤ id)
    pub first_wide : RowsWide (length j.first) d.first → RowsWide (length j.first) e.first
    pub second_wide : RowsWide (length j.second) d.second → RowsWide (length j.second) e.second
    pub sound : RowsSound d.next d.first → RowsSound d.next d.second → RowsSound e.next e.first × RowsSound e.next e.second

  -- nothing grows
  pub grown_same : (n : ℕ) (d : Placing) → Grown n d d
  grown_same n d = record {
    next = omega arith;
    first_keeps = λ id row at. at;
    second_keeps = λ id row at. at;
    first_drawn = λ id some. inl some;
    second_drawn = λ id some. inl some;
    first_wide = λ h. h;
    second_wide = λ h. h;
    sound = λ one other. (one, other);
  }

  -- it grows twice
  pub grown_on : (n : ℕ) (d e f : Placing) → Grown n d e → Grown n e f → Grown n d f
  grown_on n d e f one other = record {
    next = let a = one.next in let b = other.next in omega (arith, a, b);
    first_keeps = λ id row at. other.first_keeps id row (one.first_keeps id row at);
    second_keeps = λ id row at. other.second_keeps id row (one.second_keeps id row at);
    first_drawn = λ id some. elim (other.first_drawn id some) [ inl old ↦ one.first_drawn id old | inr new ↦ inr new ];
    second_drawn = λ id some. elim (other.second_drawn id some) [ inl old ↦ one.second_drawn id old | inr new ↦ inr new ];
    first_wide = λ h. other.first_wide (one.first_wide h);
    second_wide = λ h. other.second_wide (one.second_wide h);
    sound = λ a b. let both = one.sound a b in other.sound both.0 both.1;
  }

  -- a placed row: the halves of its entry are its parts
  pub record IsPlaced (n : ℕ) (d : Placing) (x : ℕ × List Value) (p : Placed) : Type 0 where
    pub ready : Ready n (x.0 + 1) p.after
    pub grown : Grown n d p.after
    pub first : row_of (with_absent j.first p.after.first) p.first ≡ Some (part j.first x.1)
    pub second : row_of (with_absent j.second p.after.second) p.second ≡ Some (part j.second x.1)

  -- what a row of the new target is: it comes next, it isn't kept, and it may stand
  pub record Comes (n k : ℕ) (x : ℕ × List Value) : Type 0 where
    pub next : k ≤ x.0
    pub absent : pair_of kept x.0 ≡ None
    pub below : IsBelow n x.0
    pub values : ValuesSound n x.1
    pub memory : PairsSound n m

  olds_first : (n next : ℕ) → PairsSound n m → n ≤ next → (p id : ℕ) → Own first_of m p id → id < next
  olds_first n next sound h p id own = let both = entry_sound n m p own.one own.other sound own.at in let low = both.0 in let is = own.half in omega (arith, low, is, h)

  olds_second : (n next : ℕ) → PairsSound n m → n ≤ next → (p id : ℕ) → Own second_of m p id → id < next
  olds_second n next sound h p id own = let both = entry_sound n m p own.one own.other sound own.at in let low = both.1 in let is = own.half in omega (arith, low, is, h)

  -- the own halves of a row
  pub record OwnFound (pick : ℕ × ℕ × ℕ → ℕ) (rows : Rows) (p id : ℕ) (v : List Value) : Type 0 where
    pub own : Own pick m p id
    pub low : 1 ≤ id
    pub found : row_of rows id ≡ Some v

  own_first : (n k : ℕ) (d : Placing) (x : ℕ × List Value) (id : ℕ) → Ready n k d → first_own j r m x ≡ Some id → OwnFound first_of d.first x.0 id (part j.first x.1)
  own_first n k d x id ready e =
      own_gives j.first (row_of r x.0) (half_there (option_map (λ pair. pair.0) (pair_of m x.0))) x.1 id (OwnFound first_of d.first x.0 id (part j.first x.1)) e
      (λ o at is same.
      there_gives (λ pair. pair.0) (pair_of m x.0) id (OwnFound first_of d.first x.0 id (part j.first x.1)) is
      (λ pair pairs half low.
      let both = old_halves x.0 o pair at pairs in
      let here : row_of (with_absent j.first s) id ≡ Some (part j.first o) = subst (λ (i : ℕ). row_of (with_absent j.first s) i ≡ Some (part j.first o)) half both.0 in
      let row : row_of s id ≡ Some (part j.first x.1) = sym (absent_other j.first s id low) ∙ here ∙ ap (λ (v : List Value). Some v) same in
      record { own = record { one = pair.0; other = pair.1; at = pairs; half = half }; low = low; found = ready.first.keeps id (part j.first x.1) row }))

  own_second : (n k : ℕ) (d : Placing) (x : ℕ × List Value) (id : ℕ) → Ready n k d → second_own j r m x ≡ Some id → OwnFound second_of d.second x.0 id (part j.second x.1)
  own_second n k d x id ready e =
      own_gives j.second (row_of r x.0) (half_there (option_map (λ pair. pair.1) (pair_of m x.0))) x.1 id (OwnFound second_of d.second x.0 id (part j.second x.1)) e
      (λ o at is same.
      there_gives (λ pair. pair.1) (pair_of m x.0) id (OwnFound second_of d.second x.0 id (part j.second x.1)) is
      (λ pair pairs half low.
      let both = old_halves x.0 o pair at pairs in
      let here : row_of (with_absent j.second t) id ≡ Some (part j.second o) = subst (λ (i : ℕ). row_of (with_absent j.second t) i ≡ Some (part j.second o)) half both.1 in
      let row : row_of t id ≡ Some (part j.second x.1) = sym (absent_other j.second t id low) ∙ here ∙ ap (λ (v : List Value). Some v) same in
      record { own = record { one = pair.0; other = pair.1; at = pairs; half = half }; low = low; found = ready.second.keeps id (part j.second x.1) row }))

  -- the choices for an entry with both halves
  both_first : (n k : ℕ) (d : Placing) (x : ℕ × List Value) (id : ℕ) → Ready n k d → Comes n k x → first_both (parts_of j r m x) d ≡ Some id → MayTake first_of second_of (part j.first x.1) d.first d.taken (Own first_of m x.0) d.next id
  both_first n k d x id ready comes e =
      or_gives (first_own j r m x) (least d.first_shared (part j.first x.1)) id (MayTake first_of second_of (part j.first x.1) d.first d.taken (Own first_of m x.0) d.next id) e
      (λ is.
      let it = own_first n k d x id ready is in
      let free = ready.first.free x.0 id comes.next comes.absent it.own it.low in
      record { low = it.low; high = under d.first d.next id (part j.first x.1) ready.first.below it.found; found = it.found; origin = inl it.own; common = free.0 })
      (λ is.
      let found = ready.first.found (part j.first x.1) id is in
      let common = ready.first.common (part j.first x.1) id is in
      record { low = common.0; high = under d.first d.next id (part j.first x.1) ready.first.below found; found = found; origin = inr common.2; common = common.1 })

  both_second : (n k : ℕ) (d : Placing) (x : ℕ × List Value) (next id : ℕ) → Ready n k d → Comes n k x → d.next ≤ next → second_both (parts_of j r m x) d ≡ Some id → MayTake second_of first_of (part j.second x.1) d.second d.taken (Own second_of m x.0) next id
  both_second n k d x next id ready comes h e =
      or_gives (second_own j r m x) (least d.second_shared (part j.second x.1)) id (MayTake second_of first_of (part j.second x.1) d.second d.taken (Own second_of m x.0) next id) e
      (λ is.
      let it = own_second n k d x id ready is in
      let free = ready.second.free x.0 id comes.next comes.absent it.own it.low in
      let high = under d.second d.next id (part j.second x.1) ready.second.below it.found in
      record { low = it.low; high = omega (arith, high, h); found = it.found; origin = inl it.own; common = free.0 })
      (λ is.
      let found = ready.second.found (part j.second x.1) id is in
      let common = ready.second.common (part j.second x.1) id is in
      let high = under d.second d.next id (part j.second x.1) ready.second.below found in
      record { low = common.0; high = omega (arith, high, h); found = found; origin = inr common.2; common = common.1 })

  -- the second row of an entry with both halves
  took_second : (n k : ℕ) (d : Placing) (x : ℕ × List Value) → 1 ≤ d.next → Ready n k d → Comes n k x → Took second_of first_of (part j.second x.1) d.second d.second_shared d.taken (Own second_of m x.0) (first_got (parts_of j r m x) d).next (second_got (parts_of j r m x) d) (second_more (parts_of j r m x) d)
  took_second n k d x pos ready comes =
      let rises = got_rises (first_both (parts_of j r m x) d) d.first (part j.first x.1) d.next in
      let next = (first_got (parts_of j r m x) d).next in
      took_got second_of first_of (second_both (parts_of j r m x) d) (part j.second x.1) d.second d.second_shared d.taken (Own second_of m x.0) next ready.second.rise
      (below_more d.second d.next next rises ready.second.below) (omega (arith, pos, rises)) ready.second.found (ready.second.under next (omega (arith, pos, rises)) rises)
      (λ id e. both_second n k d x next id ready comes rises e)

  -- the first row
  took_first : (n k : ℕ) (d : Placing) (x : ℕ × List Value) → 1 ≤ d.next → Ready n k d → Comes n k x → Took first_of second_of (part j.first x.1) d.first d.first_shared d.taken (Own first_of m x.0) d.next (last_got (parts_of j r m x) d) (first_more (parts_of j r m x) d)
  took_first n k d x pos ready comes =
      let a = first_got (parts_of j r m x) d in
      let b = second_got (parts_of j r m x) d in
      took_twice first_of second_of (first_both (parts_of j r m x) d) (has d.taken a.id b.id) (part j.first x.1) d.first d.first_shared d.taken (Own first_of m x.0) d.next b.next ready.first.rise ready.first.below pos
      (took_second n k d x pos ready comes).rises ready.first.found ready.first.under (λ id e. both_first n k d x id ready comes e)
      (λ e.
      let some = has_some d.taken a.id b.id e in
      let more = count_less (has_pair a.id b.id) (λ e. e.1 == a.id) d.taken (λ e q. (and_parts (e.1 == a.id) (e.2 == b.id) q).0) in
      omega (arith, some, more))

  -- the entry isn't taken
  both_free : (n k : ℕ) (d : Placing) (x : ℕ × List Value) → 1 ≤ d.next → Ready n k d → Comes n k x → count_by (has_pair (last_got (parts_of j r m x) d).id (second_got (parts_of j r m x) d).id) d.taken ≡ 0
  both_free n k d x pos ready comes =
      let a = first_got (parts_of j r m x) d in
      let b = second_got (parts_of j r m x) d in
      let one = got_rises (first_both (parts_of j r m x) d) d.first (part j.first x.1) d.next in
      let two = (took_second n k d x pos ready comes).rises in
      by_test (has d.taken a.id b.id)
      (λ q.
      let zero_count = ready.first.under b.next (omega (arith, pos, one, two)) (omega (arith, one, two)) in
      let less = count_less (has_pair b.next b.id) (λ e. e.1 == b.next) d.taken (λ e q. (and_parts (e.1 == b.next) (e.2 == b.id) q).0) in
      let none : count_by (has_pair b.next b.id) d.taken ≡ 0 = omega (arith, zero_count, less) in
      rw q none)
      (λ q. rw q (has_not d.taken a.id b.id q))

  -- an entry with both halves
  placed_both : (n k : ℕ) (d : Placing) (x : ℕ × List Value) → Ready n k d → Comes n k x → IsPlaced n d x (place_both (parts_of j r m x) d x.0)
  placed_both n k d x ready comes =
      let start = ready.next in
      let low = comes.below.0 in
      let high = comes.below.1 in
      let pos : 1 ≤ d.next = omega (arith, start, low, high) in
      let a = first_got (parts_of j r m x) d in
      let b = second_got (parts_of j r m x) d in
      let c = last_got (parts_of j r m x) d in
      let one = got_rises (first_both (parts_of j r m x) d) d.first (part j.first x.1) d.next in
      let first = took_first n k d x pos ready comes in
      let after_first = took_second n k d x pos ready comes in
      let second = took_weaker second_of first_of (part j.second x.1) d.second d.second_shared d.taken (Own second_of m x.0) d.next a.next b (second_more (parts_of j r m x) d) one after_first in
      let three : b.next ≤ c.next = got_rises (if has d.taken a.id b.id then None else Some a.id) a.rows (part j.first x.1) b.next in
      let e : ℕ × ℕ × ℕ = (x.0, c.id, b.id) in
      let two = second.rises in
      let first_rises = first.rises in
      record {
        ready = record {
          next = omega (arith, start, first_rises);
          first = full_step first_of second_of s m kept d.first d.first_shared d.taken d.next k c.next (part j.first x.1) c (first_more (parts_of j r m x) d) (x.0, c.id, b.id) ready.first (olds_first n d.next comes.memory start) pos first (omega arith) comes.next refl second.low;
          second = full_step second_of first_of t m kept d.second d.second_shared d.taken d.next k c.next (part j.second x.1) b (second_more (parts_of j r m x) d) (x.0, c.id, b.id) ready.second (olds_second n d.next comes.memory start) pos second three comes.next refl first.low;
          one = one_more d.taken (x.0, c.id, b.id) ready.one (both_free n k d x pos ready comes);
        };
        grown = record {
          next = first_rises;
          first_keeps = first.keeps;
          second_keeps = second.keeps;
          first_drawn = λ id some. elim (first.drawn id some) [ inl old ↦ inl old | inr new ↦ inr (omega (arith, start, new)) ];
          second_drawn = λ id some. elim (second.drawn id some) [ inl old ↦ inl old | inr new ↦ inr (omega (arith, start, new)) ];
          first_wide = λ h. first.wide (length j.first) (length-pick j.first x.1) h;
          second_wide = λ h. second.wide (length j.second) (length-pick j.second x.1) h;
          sound = λ f g. (
            first.sound n d.next pos start (omega arith) (pick_sound n j.first x.1 comes.values) f,
            rows_more b.next c.next three b.rows (second.sound n d.next pos start (omega arith) (pick_sound n j.second x.1 comes.values) g),
          );
        };
        first = absent_other j.first c.rows c.id first.low ∙ first.found;
        second = absent_other j.second b.rows b.id second.low ∙ second.found;
      }

  -- a first row alone
  took_first_alone : (n k : ℕ) (d : Placing) (x : ℕ × List Value) → 1 ≤ d.next → Ready n k d → Comes n k x
      → Took first_of second_of (part j.first x.1) d.first d.first_shared d.taken (λ id. Own first_of m x.0 id × (with_half first_of id m ≡ 1)) d.next (first_alone m (parts_of j r m x) d) d.first_shared
  took_first_alone n k d x pos ready comes =
      let choice = own_alone first_of m (first_own j r m x) in
      took_alone first_of second_of (part j.first x.1) d.first d.first_shared d.taken (λ id. Own first_of m x.0 id × (with_half first_of id m ≡ 1)) d.next (first_alone m (parts_of j r m x) d) (got choice d.first_shared (part j.first x.1) d.next).rows ready.first.found
      (took_got first_of second_of choice (part j.first x.1) d.first d.first_shared d.taken (λ id. Own first_of m x.0 id × (with_half first_of id m ≡ 1)) d.next ready.first.rise ready.first.below pos ready.first.found (ready.first.under d.next pos (omega arith))
      (λ id e.
      let both = alone_gives first_of m (first_own j r m x) id e in
      let it = own_first n k d x id ready both.0 in
      let free = ready.first.free x.0 id comes.next comes.absent it.own it.low in
      record { low = it.low; high = under d.first d.next id (part j.first x.1) ready.first.below it.found; found = it.found; origin = inl (it.own, both.1); common = free.0 }))

  -- a second row alone
  took_second_alone : (n k : ℕ) (d : Placing) (x : ℕ × List Value) → 1 ≤ d.next → Ready n k d → Comes n k x
      → Took second_of first_of (part j.second x.1) d.second d.second_shared d.taken (λ id. Own second_of m x.0 id × (with_half second_of id m ≡ 1)) d.next (second_alone m (parts_of j r m x) d) d.second_shared
  took_second_alone n k d x pos ready comes =
      let choice = own_alone second_of m (second_own j r m x) in
      took_alone second_of first_of (part j.second x.1) d.second d.second_shared d.taken (λ id. Own second_of m x.0 id × (with_half second_of id m ≡ 1)) d.next (second_alone m (parts_of j r m x) d) (got choice d.second_shared (part j.second x.1) d.next).rows ready.second.found
      (took_got second_of first_of choice (part j.second x.1) d.second d.second_shared d.taken (λ id. Own second_of m x.0 id × (with_half second_of id m ≡ 1)) d.next ready.second.rise ready.second.below pos ready.second.found (ready.second.under d.next pos (omega arith))
      (λ id e.
      let both = alone_gives second_of m (second_own j r m x) id e in
      let it = own_second n k d x id ready both.0 in
      let free = ready.second.free x.0 id comes.next comes.absent it.own it.low in
      record { low = it.low; high = under d.second d.next id (part j.second x.1) ready.second.below it.found; found = it.found; origin = inl (it.own, both.1); common = free.0 }))

  -- it is in no entry
  first_unused : (n k : ℕ) (d : Placing) (x : ℕ × List Value) → 1 ≤ d.next → Ready n k d → Comes n k x → with_half first_of (first_alone m (parts_of j r m x) d).id d.taken ≡ 0
  first_unused n k d x pos ready comes =
      unused_by first_of (own_alone first_of m (first_own j r m x)) d.first (part j.first x.1) d.taken d.next (ready.first.under d.next pos (omega arith))
      (λ id e.
      let both = alone_gives first_of m (first_own j r m x) id e in
      let it = own_first n k d x id ready both.0 in
      (ready.first.free x.0 id comes.next comes.absent it.own it.low).1 both.1)

  second_unused : (n k : ℕ) (d : Placing) (x : ℕ × List Value) → 1 ≤ d.next → Ready n k d → Comes n k x → with_half second_of (second_alone m (parts_of j r m x) d).id d.taken ≡ 0
  second_unused n k d x pos ready comes =
      unused_by second_of (own_alone second_of m (second_own j r m x)) d.second (part j.second x.1) d.taken d.next (ready.second.under d.next pos (omega arith))
      (λ id e.
      let both = alone_gives second_of m (second_own j r m x) id e in
      let it = own_second n k d x id ready both.0 in
      (ready.second.free x.0 id comes.next comes.absent it.own it.low).1 both.1)

  -- an entry with the first half alone
  placed_first : (n k : ℕ) (d : Placing) (x : ℕ × List Value) → Ready n k d → Comes n k x → is_present (parts_of j r m x).second ≡ false → IsPlaced n d x (place_first m (parts_of j r m x) d x.0)
  placed_first n k d x ready comes gone =
      let start = ready.next in
      let low = comes.below.0 in
      let high = comes.below.1 in
      let pos : 1 ≤ d.next = omega (arith, start, low, high) in
      let a = first_alone m (parts_of j r m x) d in
      let took = took_first_alone n k d x pos ready comes in
      let unused = first_unused n k d x pos ready comes in
      let rises = took.rises in
      let less = count_less (has_pair a.id 0) (λ e. e.1 == a.id) d.taken (λ e q. (and_parts (e.1 == a.id) (e.2 == 0) q).0) in
      let none : count_by (has_pair a.id 0) d.taken ≡ 0 = omega (arith, less, unused) in
      record {
        ready = record {
          next = omega (arith, start, rises);
          first = alone_step first_of second_of s m kept d.first d.first_shared d.taken d.next k (part j.first x.1) a (x.0, a.id, 0) ready.first (olds_first n d.next comes.memory start) pos took unused comes.next refl refl;
          second = absent_step second_of first_of t m kept d.second d.second_shared d.taken d.next k a.next (x.0, a.id, 0) ready.second pos rises comes.next refl took.low;
          one = one_more d.taken (x.0, a.id, 0) ready.one none;
        };
        grown = record {
          next = rises;
          first_keeps = took.keeps;
          second_keeps = λ id row at. at;
          first_drawn = λ id some. elim (took.drawn id some) [ inl old ↦ inl old | inr new ↦ inr (omega (arith, start, new)) ];
          second_drawn = λ id some. inl some;
          first_wide = λ h. took.wide (length j.first) (length-pick j.first x.1) h;
          second_wide = λ h. h;
          sound = λ f g. (took.sound n d.next pos start (omega arith) (pick_sound n j.first x.1 comes.values) f, rows_more d.next a.next rises d.second g);
        };
        first = absent_other j.first a.rows a.id took.low ∙ took.found;
        second = absent_part j.second (second_own j r m x) x.1 d.second gone;
      }

  -- an entry with the second half alone
  placed_second : (n k : ℕ) (d : Placing) (x : ℕ × List Value) → Ready n k d → Comes n k x → is_present (parts_of j r m x).first ≡ false → IsPlaced n d x (place_second m (parts_of j r m x) d x.0)
  placed_second n k d x ready comes gone =
      let start = ready.next in
      let low = comes.below.0 in
      let high = comes.below.1 in
      let pos : 1 ≤ d.next = omega (arith, start, low, high) in
      let b = second_alone m (parts_of j r m x) d in
      let took = took_second_alone n k d x pos ready comes in
      let unused = second_unused n k d x pos ready comes in
      let rises = took.rises in
      let less = count_less (has_pair 0 b.id) (λ e. e.2 == b.id) d.taken (λ e q. (and_parts (e.1 == 0) (e.2 == b.id) q).1) in
      let none : count_by (has_pair 0 b.id) d.taken ≡ 0 = omega (arith, less, unused) in
      record {
        ready = record {
          next = omega (arith, start, rises);
          first = absent_step first_of second_of s m kept d.first d.first_shared d.taken d.next k b.next (x.0, 0, b.id) ready.first pos rises comes.next refl took.low;
          second = alone_step second_of first_of t m kept d.second d.second_shared d.taken d.next k (part j.second x.1) b (x.0, 0, b.id) ready.second (olds_second n d.next comes.memory start) pos took unused comes.next refl refl;
          one = one_more d.taken (x.0, 0, b.id) ready.one none;
        };
        grown = record {
          next = rises;
          first_keeps = λ id row at. at;
          second_keeps = took.keeps;
          first_drawn = λ id some. inl some;
          second_drawn = λ id some. elim (took.drawn id some) [ inl old ↦ inl old | inr new ↦ inr (omega (arith, start, new)) ];
          first_wide = λ h. h;
          second_wide = λ h. took.wide (length j.second) (length-pick j.second x.1) h;
          sound = λ f g. (rows_more d.next b.next rises d.first f, took.sound n d.next pos start (omega arith) (pick_sound n j.second x.1 comes.values) g);
        };
        first = absent_part j.first (first_own j r m x) x.1 d.first gone;
        second = absent_other j.second b.rows b.id took.low ∙ took.found;
      }

  -- by the halves that are present
  placed_halves : (n k : ℕ) (d : Placing) (x : ℕ × List Value) (first second : Bool) → is_present (parts_of j r m x).first ≡ first → is_present (parts_of j r m x).second ≡ second → Ready n k d → Comes n k x → IsPlaced n d x (place_halves m (parts_of j r m x) d x.0 first second)
  placed_halves n k d x true true e f ready comes = placed_both n k d x ready comes
  placed_halves n k d x true false e f ready comes = placed_first n k d x ready comes f
  placed_halves n k d x false true e f ready comes = placed_second n k d x ready comes e
  placed_halves n k d x false false e f ready comes = placed_first n k d x ready comes f

  -- what a row of the new target is, if it may be kept
  pub record MayCome (n k : ℕ) (x : ℕ × List Value) : Type 0 where
    pub next : k ≤ x.0
    pub keeps : pair_of kept x.0 ≡ unchanged (row_of r x.0) (pair_of m x.0) x.1
    pub below : IsBelow n x.0
    pub values : ValuesSound n x.1
    pub memory : PairsSound n m

  -- both kinds of rows
  placed_by : (n k : ℕ) (d : Placing) (x : ℕ × List Value) (o : Option (ℕ × ℕ)) → unchanged (row_of r x.0) (pair_of m x.0) x.1 ≡ o → Ready n k d → MayCome n k x → IsPlaced n d x (place_by j r m d x o)
  placed_by n k d x (Some pair) e ready comes =
      let both = old_halves x.0 x.1 pair (unchanged_row (row_of r x.0) (pair_of m x.0) x.1 pair e) (unchanged_pair (row_of r x.0) (pair_of m x.0) x.1 pair e) in
      let next = comes.next in
      record {
        ready = record {
          next = ready.next;
          first = ready_later first_of second_of s d.first d.first_shared m kept d.taken d.next k (x.0 + 1) (omega (arith, next)) ready.first;
          second = ready_later second_of first_of t d.second d.second_shared m kept d.taken d.next k (x.0 + 1) (omega (arith, next)) ready.second;
          one = ready.one;
        };
        grown = grown_same n d;
        first = absent_keeps j.first s d.first pair.0 (part j.first x.1) ready.first.keeps both.0;
        second = absent_keeps j.second t d.second pair.1 (part j.second x.1) ready.second.keeps both.1;
      }
  placed_by n k d x None e ready comes =
      placed_halves n k d x (is_present (parts_of j r m x).first) (is_present (parts_of j r m x).second) refl refl ready
      (record { next = comes.next; absent = comes.keeps ∙ e; below = comes.below; values = comes.values; memory = comes.memory })

  -- each row
  pub placed_is : (n k : ℕ) (d : Placing) (x : ℕ × List Value) → Ready n k d → MayCome n k x → IsPlaced n d x (place_row j r m d x)
  placed_is n k d x ready comes = placed_by n k d x (unchanged (row_of r x.0) (pair_of m x.0) x.1) refl ready comes
