-- One half of the entries while rows are placed: what is found or drawn for it.
use Rattle.std.proofs.Common.{◌≡◌, ℕ, ◌+◌, ◌<◌, ◌≤◌, ◌==◌, ◌⊎◌, List, [], ◌∷◌, ◌++◌, length, count_by, Bool, true, false, ◌&&◌, if◌then◌else◌, Option, Some, None, IsSome, refl, ap, sym, ◌∙◌, subst, arith}
use Rattle.std.proofs.lemmas.Bool.{and_parts}
use mathlib.Core.Logic.{inl, inr}
use Rattle.par_base.specs.declared.value.Value.{Value}
use Rattle.par_base.specs.SameRows.{same_row}
use Rattle.par_base.specs.inner.SameLaws.{row_equal}
use Rattle.row_store.specs.Rows.{Rows, RiseFrom, AreBelow, row_of}
use Rattle.row_store.specs.inner.FoundRows.{rises_push, below_push, below_more}
use Rattle.id_memory.specs.Pairs.{Pairs, pair_of}
use Rattle.op_law.specs.Tables.{RowsWide}
use Rattle.op_law.specs.Sound.{ValuesSound, RowsSound}
use Rattle.op_law.proofs.SoundLaws.{rows_more, values_more}
use Rattle.row_parts.specs.RowCells.{by_test, by_option}
use Rattle.pair_rows.specs.inner.Lookups.{found_before, found_behind, behind_or, wide_behind, sound_behind}
use Rattle.pair_rows.specs.inner.PairLemmas.{count_yes, count_no, count_append}
use Rattle.pair_rows.specs.Given.{least, Got, got, or_id}
use Rattle.outer_law.specs.Entries.{with_half, with_half_alone}
use Rattle.outer_law.proofs.CountingLaws.{count_less}

-- one entry more counts, or doesn't
pub count_more : (f : ℕ × ℕ × ℕ → Bool) (es : Pairs) (e : ℕ × ℕ × ℕ) → f e ≡ true → count_by f (es ++ e ∷ []) ≡ 1 + count_by f es
count_more f es e h =
    let all = count_append f es (e ∷ []) in
    let one = count_yes f e [] h in
    omega (arith, all, one)

pub count_same : (f : ℕ × ℕ × ℕ → Bool) (es : Pairs) (e : ℕ × ℕ × ℕ) → f e ≡ false → count_by f (es ++ e ∷ []) ≡ count_by f es
count_same f es e h =
    let all = count_append f es (e ∷ []) in
    let none = count_no f e [] h in
    omega (arith, all, none)

-- the least of rows with one behind
pub least_behind : (rows : Rows) (id : ℕ) (values x : List Value) → least (rows ++ (id, values) ∷ []) x ≡ or_id (least rows x) (if same_row values x then Some id else None)
least_behind [] id values x = refl
least_behind (r ∷ rs) id values x = by_test (same_row r.1 x) (λ e. rw e refl) (λ e. rw e (least_behind rs id values x))

-- an old entry of the identifier has this half
pub record Own (pick : ℕ × ℕ × ℕ → ℕ) (m : Pairs) (p id : ℕ) : Type 0 where
  pub one : ℕ
  pub other : ℕ
  pub at : pair_of m p ≡ Some (one, other)
  pub half : pick (p, one, other) ≡ id

-- what holds of one half of what is placed: old rows, all rows, those that may be shared, the old memory, the kept entries, those that are taken, the next identifier, and the least identifier of the rows to come
pub record HalfReady (pick other : ℕ × ℕ × ℕ → ℕ) (old rows shared : Rows) (m kept taken : Pairs) (next k : ℕ) : Type 0 where
  pub rise : RiseFrom 1 rows
  pub below : AreBelow rows next
  pub keeps : (id : ℕ) (row : List Value) → row_of old id ≡ Some row → row_of rows id ≡ Some row
  pub found : (x : List Value) (id : ℕ) → least shared x ≡ Some id → row_of rows id ≡ Some x
  pub common : (x : List Value) (id : ℕ) → least shared x ≡ Some id → (1 ≤ id) × (with_half_alone pick other id taken ≡ 0) × (1 ≤ with_half pick id taken)
  pub none : with_half_alone pick other 0 taken ≡ 0
  pub alone : (id : ℕ) → 1 ≤ with_half_alone pick other id taken → with_half pick id taken ≤ 1
  pub under : (id : ℕ) → 1 ≤ id → next ≤ id → with_half pick id taken ≡ 0
  pub free : (p id : ℕ) → k ≤ p → pair_of kept p ≡ None → Own pick m p id → 1 ≤ id → (with_half_alone pick other id taken ≡ 0) × (with_half pick id m ≡ 1 → with_half pick id taken ≡ 0)

-- a row with these values was found or drawn: where its identifier comes from, and what is there then
pub record Took (pick other : ℕ × ℕ × ℕ → ℕ) (x : List Value) (rows shared : Rows) (taken : Pairs) (IsOld : ℕ → Type 0) (next : ℕ) (g : Got) (more : Rows) : Type 0 where
  pub low : 1 ≤ g.id
  pub high : g.id < g.next
  pub rises : next ≤ g.next
  pub rise : RiseFrom 1 g.rows
  pub below : AreBelow g.rows g.next
  pub found : row_of g.rows g.id ≡ Some x
  pub keeps : (id : ℕ) (row : List Value) → row_of rows id ≡ Some row → row_of g.rows id ≡ Some row
  pub drawn : (id : ℕ) → IsSome (row_of g.rows id) → IsSome (row_of rows id) ⊎ (next ≤ id)
  pub wide : (w : ℕ) → length x ≡ w → RowsWide w rows → RowsWide w g.rows
  pub sound : (k n : ℕ) → 1 ≤ n → k ≤ n → n ≤ next → ValuesSound k x → RowsSound n rows → RowsSound g.next g.rows
  pub shares : (y : List Value) (id : ℕ) → least more y ≡ Some id → row_of g.rows id ≡ Some y
  pub new : (y : List Value) (id : ℕ) → least more y ≡ Some id → (least shared y ≡ Some id) ⊎ (id ≡ g.id)
  pub origin : IsOld g.id ⊎ ((1 ≤ with_half pick g.id taken) ⊎ (next ≤ g.id))
  pub common : with_half_alone pick other g.id taken ≡ 0

module _ (pick other : ℕ × ℕ × ℕ → ℕ) where
  -- an entry alone is an entry
  pub alone_less : (id : ℕ) (es : Pairs) → with_half_alone pick other id es ≤ with_half pick id es
  alone_less id es = count_less (λ e. pick e == id && other e == 0) (λ e. pick e == id) es (λ e q. (and_parts (pick e == id) (other e == 0) q).0)

  -- a row that is found
  pub took_found : (x : List Value) (rows shared : Rows) (taken : Pairs) (IsOld : ℕ → Type 0) (next id : ℕ) → RiseFrom 1 rows → AreBelow rows next → 1 ≤ id → id < next → row_of rows id ≡ Some x
      → ((y : List Value) (i : ℕ) → least shared y ≡ Some i → row_of rows i ≡ Some y) → (IsOld id ⊎ ((1 ≤ with_half pick id taken) ⊎ (next ≤ id))) → with_half_alone pick other id taken ≡ 0
      → Took pick other x rows shared taken IsOld next (record { id = id; rows = rows; next = next }) shared
  took_found x rows shared taken IsOld next id rise below low high found shares origin common = record {
    low = low;
    high = high;
    rises = omega arith;
    rise = rise;
    below = below;
    found = found;
    keeps = λ i row at. at;
    drawn = λ i some. inl some;
    wide = λ w long wide. wide;
    sound = λ k n h low within values sound. rows_more n next within rows sound;
    shares = shares;
    new = λ y i at. inl at;
    origin = origin;
    common = common;
  }

  -- a row that is drawn
  pub took_drawn : (x : List Value) (rows shared : Rows) (taken : Pairs) (IsOld : ℕ → Type 0) (start next : ℕ) → RiseFrom 1 rows → AreBelow rows next → 1 ≤ next → start ≤ next
      → ((y : List Value) (i : ℕ) → least shared y ≡ Some i → row_of rows i ≡ Some y) → with_half pick next taken ≡ 0
      → Took pick other x rows shared taken IsOld start (record { id = next; rows = rows ++ (next, x) ∷ []; next = next + 1 }) (shared ++ (next, x) ∷ [])
  took_drawn x rows shared taken IsOld start next rise below low within shares none = record {
    low = low;
    high = omega arith;
    rises = omega (arith, within);
    rise = rises_push 1 rows next x low rise below;
    below = below_push rows next x below;
    found = found_behind rows next x below;
    keeps = λ i row at. found_before rows ((next, x) ∷ []) i row at;
    drawn = λ i some. elim (behind_or rows i next x some) [ inl old ↦ inl old | inr new ↦ inr (omega (arith, new, within)) ];
    wide = λ w long wide. wide_behind w rows next x wide long;
    sound = λ k n h le under values sound.
        sound_behind (next + 1) rows next x (rows_more n (next + 1) (omega (arith, under, within)) rows sound) (low, omega arith) (values_more k (next + 1) (omega (arith, le, under, within)) x values);
    shares = λ y i at.
        let both : or_id (least shared y) (if same_row x y then Some next else None) ≡ Some i = sym (least_behind shared next x y) ∙ at in
        by_option (least shared y)
        (λ e.
        by_test (same_row x y)
        (λ q.
        let some : ◌≡◌ {A = Option ℕ} (Some next) (Some i) = rw (e, q) at both in
        let id : next ≡ i = cc in
        let row = found_behind rows next x below in
        subst (λ (u : ℕ). row_of (rows ++ (next, x) ∷ []) u ≡ Some y) id (row ∙ ap (λ (v : List Value). Some v) (row_equal x y q)))
        (λ q. let gone : ◌≡◌ {A = Option ℕ} None (Some i) = rw (e, q) at both in absurd (cc)))
        (λ u e.
        let some : ◌≡◌ {A = Option ℕ} (Some u) (Some i) = rw e at both in
        found_before rows ((next, x) ∷ []) i y (shares y i (e ∙ some)));
    new = λ y i at.
        let both : or_id (least shared y) (if same_row x y then Some next else None) ≡ Some i = sym (least_behind shared next x y) ∙ at in
        by_option (least shared y)
        (λ e.
        by_test (same_row x y)
        (λ q.
        let some : ◌≡◌ {A = Option ℕ} (Some next) (Some i) = rw (e, q) at both in
        let id : next ≡ i = cc in
        inr (sym id))
        (λ q. let gone : ◌≡◌ {A = Option ℕ} None (Some i) = rw (e, q) at both in absurd (cc)))
        (λ u e. let some : ◌≡◌ {A = Option ℕ} (Some u) (Some i) = rw e at both in inl (e ∙ some));
    origin = inr (inr within);
    common = let less = alone_less next taken in omega (arith, less, none);
  }

  -- what a choice must be
  pub record MayTake (x : List Value) (rows : Rows) (taken : Pairs) (IsOld : ℕ → Type 0) (next id : ℕ) : Type 0 where
    pub low : 1 ≤ id
    pub high : id < next
    pub found : row_of rows id ≡ Some x
    pub origin : IsOld id ⊎ (1 ≤ with_half pick id taken)
    pub common : with_half_alone pick other id taken ≡ 0

  -- the origin, where it isn't drawn
  old_origin : (taken : Pairs) (IsOld : ℕ → Type 0) (next id : ℕ) → (IsOld id ⊎ (1 ≤ with_half pick id taken)) → (IsOld id ⊎ ((1 ≤ with_half pick id taken) ⊎ (next ≤ id)))
  old_origin taken IsOld next id (inl old) = inl old
  old_origin taken IsOld next id (inr some) = inr (inl some)

  -- both
  pub took_got : (choice : Option ℕ) (x : List Value) (rows shared : Rows) (taken : Pairs) (IsOld : ℕ → Type 0) (next : ℕ) → RiseFrom 1 rows → AreBelow rows next → 1 ≤ next
      → ((y : List Value) (i : ℕ) → least shared y ≡ Some i → row_of rows i ≡ Some y) → with_half pick next taken ≡ 0
      → ((id : ℕ) → choice ≡ Some id → MayTake x rows taken IsOld next id)
      → Took pick other x rows shared taken IsOld next (got choice rows x next) (got choice shared x next).rows
  took_got (Some id) x rows shared taken IsOld next rise below low shares none may =
      let it = may id refl in
      took_found x rows shared taken IsOld next id rise below it.low it.high it.found shares (old_origin taken IsOld next id it.origin) it.common
  took_got None x rows shared taken IsOld next rise below low shares none may = took_drawn x rows shared taken IsOld next next rise below low (omega arith) shares none

  -- and then another one in its place, where it is taken: it was no drawn one then
  pub took_twice : (choice : Option ℕ) (is_taken : Bool) (x : List Value) (rows shared : Rows) (taken : Pairs) (IsOld : ℕ → Type 0) (next later : ℕ) → RiseFrom 1 rows → AreBelow rows next → 1 ≤ next
      → (got choice rows x next).next ≤ later
      → ((y : List Value) (i : ℕ) → least shared y ≡ Some i → row_of rows i ≡ Some y) → ((id : ℕ) → 1 ≤ id → next ≤ id → with_half pick id taken ≡ 0)
      → ((id : ℕ) → choice ≡ Some id → MayTake x rows taken IsOld next id)
      → (is_taken ≡ true → 1 ≤ with_half pick (got choice rows x next).id taken)
      → Took pick other x rows shared taken IsOld next (got (if is_taken then None else Some (got choice rows x next).id) (got choice rows x next).rows x later)
      (got (if is_taken then None else Some (got choice rows x next).id) (got choice shared x next).rows x later).rows
  took_twice (Some id) true x rows shared taken IsOld next later rise below low h shares none may was =
      took_drawn x rows shared taken IsOld next later rise (below_more rows next later h below) (omega (arith, low, h)) h shares (none later (omega (arith, low, h)) h)
  took_twice (Some id) false x rows shared taken IsOld next later rise below low h shares none may was =
      let it = may id refl in
      let high = it.high in
      let base = took_found x rows shared taken IsOld next id rise below it.low it.high it.found shares (old_origin taken IsOld next id it.origin) it.common in
      record {
        low = it.low;
        high = omega (arith, high, h);
        rises = h;
        rise = rise;
        below = below_more rows next later h below;
        found = it.found;
        keeps = λ i row at. at;
        drawn = λ i some. inl some;
        wide = λ w long wide. wide;
        sound = λ k n one le within values sound. rows_more n later (omega (arith, within, h)) rows sound;
        shares = shares;
        new = λ y i at. inl at;
        origin = old_origin taken IsOld next id it.origin;
        common = it.common;
      }
  took_twice None true x rows shared taken IsOld next later rise below low h shares none may was =
      let some = was refl in
      let zero_count = none next low (omega arith) in
      absurd (omega (arith, some, zero_count))
  took_twice None false x rows shared taken IsOld next later rise below low h shares none may was =
      let base = took_drawn x rows shared taken IsOld next next rise below low (omega arith) shares (none next low (omega arith)) in
      record {
        low = base.low;
        high = omega (arith, h);
        rises = omega (arith, h);
        rise = base.rise;
        below = below_more (rows ++ (next, x) ∷ []) (next + 1) later h base.below;
        found = base.found;
        keeps = base.keeps;
        drawn = base.drawn;
        wide = base.wide;
        sound = λ k n one le within values sound. rows_more (next + 1) later h (rows ++ (next, x) ∷ []) (base.sound k n one le within values sound);
        shares = base.shares;
        new = base.new;
        origin = base.origin;
        common = base.common;
      }

module _ (pick other : ℕ × ℕ × ℕ → ℕ) where
  -- what is there is there from a lower number on, too
  pub took_weaker : (x : List Value) (rows shared : Rows) (taken : Pairs) (IsOld : ℕ → Type 0) (start next : ℕ) (g : Got) (more : Rows) → start ≤ next → Took pick other x rows shared taken IsOld next g more → Took pick other x rows shared taken IsOld start g more
  took_weaker x rows shared taken IsOld start next g more h took =
      let rises = took.rises in
      record {
        low = took.low;
        high = took.high;
        rises = omega (arith, h, rises);
        rise = took.rise;
        below = took.below;
        found = took.found;
        keeps = took.keeps;
        drawn = λ i some. elim (took.drawn i some) [ inl old ↦ inl old | inr new ↦ inr (omega (arith, h, new)) ];
        wide = took.wide;
        sound = λ k n low le within values sound. took.sound k n low le (omega (arith, within, h)) values sound;
        shares = took.shares;
        new = took.new;
        origin = elim took.origin [ inl old ↦ inl old | inr (inl some) ↦ inr (inl some) | inr (inr new) ↦ inr (inr (omega (arith, h, new))) ];
        common = took.common;
      }

  -- a row that isn't shared
  pub took_alone : (x : List Value) (rows shared : Rows) (taken : Pairs) (IsOld : ℕ → Type 0) (next : ℕ) (g : Got) (more : Rows) → ((y : List Value) (i : ℕ) → least shared y ≡ Some i → row_of rows i ≡ Some y) → Took pick other x rows shared taken IsOld next g more → Took pick other x rows shared taken IsOld next g shared
  took_alone x rows shared taken IsOld next g more shares took = record {
    low = took.low;
    high = took.high;
    rises = took.rises;
    rise = took.rise;
    below = took.below;
    found = took.found;
    keeps = took.keeps;
    drawn = took.drawn;
    wide = took.wide;
    sound = took.sound;
    shares = λ y i at. took.keeps i y (shares y i at);
    new = λ y i at. inl at;
    origin = took.origin;
    common = took.common;
  }
