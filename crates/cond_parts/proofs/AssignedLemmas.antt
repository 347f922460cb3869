-- The pairs that the rows of a new R get, in a part and in the whole.
use Rattle.std.specs.Option.{option_map}
use Rattle.std.proofs.Common.{◌≡◌, ℕ, ◌<◌, ◌≤◌, ◌==◌, List, [], ◌∷◌, ◌++◌, Bool, true, false, not, if◌then◌else◌, Option, Some, None, IsSome, refl, ap, sym, ◌∙◌, subst, arith}
use Rattle.std.proofs.lemmas.Bool.{and_parts, eqb-true, false≢true}
use mathlib.Core.Logic.{inl, inr}
use Rattle.par_base.specs.declared.value.Value.{Value}
use Rattle.par_base.specs.inner.SameLaws.{row_same}
use Rattle.row_store.specs.Rows.{Rows, row_of}
use Rattle.id_memory.specs.Pairs.{Pairs, has_pair, pair_of}
use Rattle.op_law.specs.Local.{rows_only}
use Rattle.op_law.specs.Sound.{PairsSound}
use Rattle.op_law.proofs.OnlyLaws.{row_in}
use Rattle.row_parts.specs.Places.{pick as part}
use Rattle.row_parts.specs.RowCells.{Cell, by_option, by_test}
use Rattle.pair_rows.specs.Given.{Got, got, kept_entry, kept_in, side_got, unchanged}
use Rattle.pair_rows.specs.Shown.{IsJoined, Joining, has, joined}
use Rattle.pair_rows.specs.inner.Changed.{AreRowsOf}
use Rattle.pair_rows.specs.inner.Lookups.{filter_append}
use Rattle.pair_rows.specs.inner.ShownLaws.{has_joined}
use Rattle.pair_rows.specs.inner.TakenPairs.{has_before, has_behind, unchanged_pair}
use Rattle.op_cond_join.specs.Assigned.{Assigning, Placed, assigned, beginning, ending, first_got, fresh_got, last_got, place_by, place_changed, place_row, second_got}
use Rattle.pair_parts.specs.Parts.{memory_only}
use Rattle.cond_parts.specs.Backward.{BringsAssigned, first_found, second_found}
use Rattle.cond_parts.proofs.FilterLemmas.{has_part}
use Rattle.cond_parts.proofs.GotLemmas.{LeastFrom, SideGot, got_from, got_next, got_only, got_part, got_pass, got_rest, side_part}
use Rattle.cond_parts.proofs.MemoryLemmas.{Brings, Each, pair_in}

-- both halves of a pair are below the next identifier
pub pair_below : (n : ℕ) (es : Pairs) (id a b : ℕ) → PairsSound n es → pair_of es id ≡ Some (a, b) → (a < n) × (b < n)
pair_below n [] id a b sound e = absurd (cc)
pair_below n (x ∷ xs) id a b sound e =
    by_test (x.0 == id)
    (λ q.
    let some : ◌≡◌ {A = Option (ℕ × ℕ)} (Some (x.1, x.2)) (Some (a, b)) = rw q at e in
    let pair : ◌≡◌ {A = ℕ × ℕ} (x.1, x.2) (a, b) = cc in
    let first : x.1 ≡ a = ap (λ (k : ℕ × ℕ). k.0) pair in
    let second : x.2 ≡ b = ap (λ (k : ℕ × ℕ). k.1) pair in
    let one = sound.0.1 in
    let other = sound.0.2 in
    (omega (arith, first, one), omega (arith, second, other)))
    (λ q. let rest : pair_of xs id ≡ Some (a, b) = rw q at e in pair_below n xs id a b sound.1 rest)

-- what was chosen
pub chosen_is : (b : Bool) (k id : ℕ) → ◌≡◌ {A = Option ℕ} (if b then None else Some k) (Some id) → k ≡ id
chosen_is true k id e = absurd (cc)
chosen_is false k id e = cc

-- one entry more that passes
pub memory_behind : (P : ℕ → Bool) (es : Pairs) (e : ℕ × ℕ × ℕ) → P e.0 ≡ true → memory_only P (es ++ e ∷ []) ≡ memory_only P es ++ e ∷ []
memory_behind P es e pass = filter_append (λ x. P x.0) es (e ∷ []) ∙ rw pass refl

-- an entry in front, where it passes and where it doesn't
entry_in : (P : ℕ → Bool) (id : ℕ) (o : Option (ℕ × ℕ)) (es : Pairs) → P id ≡ true → memory_only P (kept_entry id o es) ≡ kept_entry id o (memory_only P es)
entry_in P id (Some pair) es pass = rw pass refl
entry_in P id None es pass = refl

entry_out : (P : ℕ → Bool) (id : ℕ) (o : Option (ℕ × ℕ)) (es : Pairs) → P id ≡ false → memory_only P (kept_entry id o es) ≡ memory_only P es
entry_out P id (Some pair) es out = rw out refl
entry_out P id None es out = refl

-- the kept entries of a part are those that pass
pub kept_part : (P : ℕ → Bool) (r : Rows) (m : Pairs) (xs : Rows) → kept_in (rows_only P r) (memory_only P m) (rows_only P xs) ≡ memory_only P (kept_in r m xs)
kept_part P r m [] = refl
kept_part P r m (x ∷ xs) =
    let rest = kept_part P r m xs in
    let o = unchanged (row_of r x.0) (pair_of m x.0) x.1 in
    by_test (P x.0)
    (λ e.
    let cell = row_in P r x.0 e in
    let pair = pair_in P m x.0 e in
    let same : unchanged (row_of (rows_only P r) x.0) (pair_of (memory_only P m) x.0) x.1 ≡ o = rw (cell, pair) refl in
    rw e (ap (λ (c : Option (ℕ × ℕ)). kept_entry x.0 c (kept_in (rows_only P r) (memory_only P m) (rows_only P xs))) same ∙ ap (kept_entry x.0 o) rest ∙ sym (entry_in P x.0 o (kept_in r m xs) e)))
    (λ e. rw e (rest ∙ sym (entry_out P x.0 o (kept_in r m xs) e)))

-- each kept entry is one of the memory
each_entry : (m : Pairs) (id : ℕ) (o : Option (ℕ × ℕ)) (es : Pairs) → ((pair : ℕ × ℕ) → o ≡ Some pair → pair_of m id ≡ Some pair) → Each (λ e. pair_of m e.0 ≡ Some (e.1, e.2)) es → Each (λ e. pair_of m e.0 ≡ Some (e.1, e.2)) (kept_entry id o es)
each_entry m id (Some pair) es h all = (h pair refl, all)
each_entry m id None es h all = all

pub each_kept : (r : Rows) (m : Pairs) (xs : Rows) → Each (λ e. pair_of m e.0 ≡ Some (e.1, e.2)) (kept_in r m xs)
each_kept r m [] = tt
each_kept r m (x ∷ xs) = each_entry m x.0 (unchanged (row_of r x.0) (pair_of m x.0) x.1) (kept_in r m xs) (λ pair e. unchanged_pair (row_of r x.0) (pair_of m x.0) x.1 pair e) (each_kept r m xs)

-- so what brings the entries of a pair brings the kept ones
pub each_passes : (P : ℕ → Bool) (m : Pairs) (a b : ℕ) (es : Pairs) → ((id : ℕ) → pair_of m id ≡ Some (a, b) → P id ≡ true) → Each (λ e. pair_of m e.0 ≡ Some (e.1, e.2)) es → Each (λ e. has_pair a b e ≡ true → P e.0 ≡ true) es
each_passes P m a b [] h all = tt
each_passes P m a b (e ∷ es) h all = (
  λ q.
      let parts = and_parts (e.1 == a) (e.2 == b) q in
      let first = eqb-true e.1 a parts.0 in
      let second = eqb-true e.2 b parts.1 in
      h e.0 (all.0 ∙ ap (λ (i : ℕ). Some (i, e.2)) first ∙ ap (λ (i : ℕ). Some (a, i)) second),
  each_passes P m a b es h all.1,
)

module _ (j : Joining) (C P : ℕ → Bool) (n : ℕ) (s t r : Rows) (m : Pairs) (new : Rows) (is : IsJoined j s t r m) (sound : PairsSound n m)
    (in_part_of : (q : ℕ) → C q ≡ true → P q ≡ true) (high : (q : ℕ) → n ≤ q → P q ≡ true) (same_r : (q : ℕ) → C q ≡ false → row_of new q ≡ row_of r q)
    (c : BringsAssigned j C P s t r m new) where
  -- what is assigned, of the part
  abbrev pub part_assigning : Assigning → Assigning
  part_assigning d = record { first = rows_only P d.first; second = rows_only P d.second; taken = memory_only P d.taken; next = d.next }

  abbrev placed_part : Placed → Placed
  placed_part x = record { first = x.first; second = x.second; after = part_assigning x.after }

  -- the entries of a pair pass
  abbrev EntryPasses : ℕ → ℕ → Type 0
  EntryPasses a b = (id : ℕ) → pair_of m id ≡ Some (a, b) → P id ≡ true

  -- what holds of what is assigned
  pub record Fit (d : Assigning) : Type 0 where
    pub next : n ≤ d.next
    pub first_from : LeastFrom n s d.first
    pub second_from : LeastFrom n t d.second
    pub first_rest : rows_only (λ q. not (P q)) d.first ≡ rows_only (λ q. not (P q)) s
    pub second_rest : rows_only (λ q. not (P q)) d.second ≡ rows_only (λ q. not (P q)) t
    pub taken : (a b : ℕ) → EntryPasses a b → has (memory_only P d.taken) a b ≡ has d.taken a b

  -- a row that isn't changed keeps its pair
  pub record IsKept (id : ℕ) (row : List Value) : Type 0 where
    pub pair : ℕ × ℕ
    pub is_pair : pair_of m id ≡ Some pair
    pub unchanged_is : unchanged (row_of r id) (pair_of m id) row ≡ Some pair

  pub is_kept : (id : ℕ) (row : List Value) → C id ≡ false → row_of new id ≡ Some row → IsKept id row
  is_kept id row out at =
      let old : row_of r id ≡ Some row = sym (same_r id out) ∙ at in
      let found : row_of (joined j s t m) id ≡ Some row = sym (ap (λ (rows : Rows). row_of rows id) is.rows) ∙ old in
      let some : IsSome (row_of (joined j s t m) id) = rw found refl in
      let has_it = has_joined j s t m id is.there some in
      by_option (pair_of m id)
      (λ e. let none : false ≡ true = rw e at has_it in absurd (false≢true none))
      (λ pair e. let same = row_same row in record { pair = pair; is_pair = e; unchanged_is = rw (old, e, same) refl })

  -- a changed row
  module _ (d : Assigning) (x : ℕ × List Value) (changed : C x.0 ≡ true) (at : row_of new x.0 ≡ Some x.1) (fit : Fit d) where
    abbrev a : Got
    a = first_got j r m d x

    abbrev b : Got
    b = second_got j r m d x

    abbrev z : Got
    z = last_got j r m d x

    pass : P x.0 ≡ true
    pass = in_part_of x.0 changed

    cell : row_of (rows_only P r) x.0 ≡ row_of r x.0
    cell = row_in P r x.0 pass

    pair : pair_of (memory_only P m) x.0 ≡ pair_of m x.0
    pair = pair_in P m x.0 pass

    first_is : SideGot P n s d.first (first_found j r m s x.0 x.1) d.next a (side_got j.first (row_of r x.0) (option_map (λ pair. pair.0) (pair_of m x.0)) x.1 (rows_only P d.first) d.next)
    first_is = side_part P n s j.first (row_of r x.0) (option_map (λ pair. pair.0) (pair_of m x.0)) x.1 d.first d.next fit.next high fit.first_from (λ q e. c.first x.0 x.1 q changed at e)

    above : n ≤ a.next
    above = let low = fit.next in let more = first_is.next in omega (arith, low, more)

    second_is : SideGot P n t d.second (second_found j r m t x.0 x.1) a.next b (side_got j.second (row_of r x.0) (option_map (λ pair. pair.1) (pair_of m x.0)) x.1 (rows_only P d.second) a.next)
    second_is = side_part P n t j.second (row_of r x.0) (option_map (λ pair. pair.1) (pair_of m x.0)) x.1 d.second a.next above high fit.second_from (λ q e. c.second x.0 x.1 q changed at e)

    above_both : n ≤ b.next
    above_both = let low = above in let more = second_is.next in omega (arith, low, more)

    first_small : first_got j (rows_only P r) (memory_only P m) (part_assigning d) x ≡ got_part P a
    first_small = ap (λ (o : Cell). side_got j.first o (option_map (λ pair. pair.0) (pair_of (memory_only P m) x.0)) x.1 (rows_only P d.first) d.next) cell
        ∙ ap (λ (o : Option (ℕ × ℕ)). side_got j.first (row_of r x.0) (option_map (λ pair. pair.0) o) x.1 (rows_only P d.first) d.next) pair ∙ first_is.is_part

    second_small : second_got j (rows_only P r) (memory_only P m) (part_assigning d) x ≡ got_part P b
    second_small = ap (λ (g : Got). side_got j.second (row_of (rows_only P r) x.0) (option_map (λ pair. pair.1) (pair_of (memory_only P m) x.0)) x.1 (rows_only P d.second) g.next) first_small
        ∙ ap (λ (o : Cell). side_got j.second o (option_map (λ pair. pair.1) (pair_of (memory_only P m) x.0)) x.1 (rows_only P d.second) a.next) cell
        ∙ ap (λ (o : Option (ℕ × ℕ)). side_got j.second (row_of r x.0) (option_map (λ pair. pair.1) o) x.1 (rows_only P d.second) a.next) pair ∙ second_is.is_part

    -- the entry that has both passes
    entry_passes : EntryPasses a.id b.id
    entry_passes id e =
        let below = pair_below n m id a.id b.id sound e in
        let low = below.0 in
        let other_low = below.1 in
        elim first_is.from [
          | inl one ↦ elim second_is.from [ inl two ↦ c.pairs x.0 x.1 a.id b.id id changed at one two e | inr far ↦ absurd (omega (arith, far, other_low)) ]
          | inr far ↦ absurd (omega (arith, far, low))
        ]

    abbrev choice : Option ℕ
    choice = if has d.taken (first_got j r m d x).id (second_got j r m d x).id then None else Some (first_got j r m d x).id

    last_small : last_got j (rows_only P r) (memory_only P m) (part_assigning d) x ≡ got_part P z
    last_small =
        ap (λ (g : Got). fresh_got j (memory_only P d.taken) x.1 g (second_got j (rows_only P r) (memory_only P m) (part_assigning d) x)) first_small
        ∙ ap (λ (g : Got). fresh_got j (memory_only P d.taken) x.1 (got_part P a) g) second_small
        ∙ ap (λ (u : Bool). got (if u then None else Some a.id) (rows_only P a.rows) (part j.first x.1) b.next) (fit.taken a.id b.id entry_passes)
        ∙ got_only P choice a.rows (part j.first x.1) b.next (high b.next above_both)

    last_pass : P z.id ≡ true
    last_pass = got_pass P choice a.rows (part j.first x.1) b.next (high b.next above_both) (λ q e. let same = chosen_is (has d.taken a.id b.id) a.id q e in sym (ap P same) ∙ first_is.pass)

    -- what is placed, from what was got
    abbrev place_of : Assigning → Got → Got → Placed
    place_of e g h = record { first = h.id; second = g.id; after = record { first = h.rows; second = g.rows; taken = e.taken ++ (x.0, h.id, g.id) ∷ []; next = h.next } }

    -- THE PART PLACES A CHANGED ROW AS THE WHOLE
    pub changed_part : place_changed j (rows_only P r) (memory_only P m) (part_assigning d) x ≡ placed_part (place_changed j r m d x)
    changed_part =
        ap (λ (g : Got). place_of (part_assigning d) (second_got j (rows_only P r) (memory_only P m) (part_assigning d) x) g) last_small
        ∙ ap (λ (g : Got). place_of (part_assigning d) g (got_part P z)) second_small
        ∙ ap (λ (es : Pairs). record { first = z.id; second = b.id; after = record { first = rows_only P z.rows; second = rows_only P b.rows; taken = es; next = z.next } }) (sym (memory_behind P d.taken (x.0, z.id, b.id) pass))

    -- and leaves what holds
    pub changed_fit : Fit (place_changed j r m d x).after
    changed_fit = record {
      next = let low = above_both in let more = got_next choice a.rows (part j.first x.1) b.next in omega (arith, low, more);
      first_from = got_from n s choice a.rows (part j.first x.1) b.next above_both first_is.least_from;
      second_from = second_is.least_from;
      first_rest = got_rest P choice a.rows (part j.first x.1) b.next (high b.next above_both) ∙ first_is.rest ∙ fit.first_rest;
      second_rest = second_is.rest ∙ fit.second_rest;
      taken = λ u v brought.
          let e : ℕ × ℕ × ℕ = (x.0, z.id, b.id) in
          ap (λ (es : Pairs). has es u v) (memory_behind P d.taken e pass)
          ∙ by_test (has_pair u v e)
          (λ q. has_behind (memory_only P d.taken) e u v q ∙ sym (has_behind d.taken e u v q))
          (λ q. has_before (memory_only P d.taken) e u v q ∙ fit.taken u v brought ∙ sym (has_before d.taken e u v q));
    }

  -- how a row that passes is placed: in the part as in the whole, with rows that pass
  record Step (d : Assigning) (x : ℕ × List Value) (p small : Placed) : Type 0 where
    pub same : small ≡ placed_part p
    pub fit : Fit p.after
    pub first : P p.first ≡ true
    pub second : P p.second ≡ true

  -- a row that passes
  step_by : (d : Assigning) (x : ℕ × List Value) (o : Option (ℕ × ℕ)) → unchanged (row_of r x.0) (pair_of m x.0) x.1 ≡ o → row_of new x.0 ≡ Some x.1 → Fit d
      → P x.0 ≡ true → Step d x (place_by j r m d x o) (place_by j (rows_only P r) (memory_only P m) (part_assigning d) x o)
  step_by d x (Some pair) e at fit pass =
      let both = c.rows x.0 pair.0 pair.1 (unchanged_pair (row_of r x.0) (pair_of m x.0) x.1 pair e) pass in
      record { same = refl; fit = fit; first = both.0; second = both.1 }
  step_by d x None e at fit pass =
      by_test (C x.0)
      (λ q. record { same = changed_part d x q at fit; fit = changed_fit d x q at fit; first = last_pass d x q at fit; second = (second_is d x q at fit).pass })
      (λ q. let kept = is_kept x.0 x.1 q at in let bad : ◌≡◌ {A = Option (ℕ × ℕ)} None (Some kept.pair) = sym e ∙ kept.unchanged_is in absurd (cc))

  step : (d : Assigning) (x : ℕ × List Value) → P x.0 ≡ true → row_of new x.0 ≡ Some x.1 → Fit d
      → Step d x (place_row j r m d x) (place_row j (rows_only P r) (memory_only P m) (part_assigning d) x)
  step d x pass at fit =
      let cell = row_in P r x.0 pass in
      let pair = pair_in P m x.0 pass in
      let both = step_by d x (unchanged (row_of r x.0) (pair_of m x.0) x.1) refl at fit pass in
      let same : unchanged (row_of (rows_only P r) x.0) (pair_of (memory_only P m) x.0) x.1 ≡ unchanged (row_of r x.0) (pair_of m x.0) x.1 = rw (cell, pair) refl in
      record {
        same = ap (λ (o : Option (ℕ × ℕ)). place_by j (rows_only P r) (memory_only P m) (part_assigning d) x o) same ∙ both.same;
        fit = both.fit;
        first = both.first;
        second = both.second;
      }

  -- a row that isn't changed is placed where it was
  pub kept_place : (d : Assigning) (x : ℕ × List Value) (kept : IsKept x.0 x.1) → place_row j r m d x ≡ record { first = kept.pair.0; second = kept.pair.1; after = d }
  kept_place d x kept = ap (λ (o : Option (ℕ × ℕ)). place_by j r m d x o) kept.unchanged_is

  -- a row that doesn't pass isn't changed
  pub not_changed : (q : ℕ) → P q ≡ false → C q ≡ false
  not_changed q out = by_test (C q) (λ e. let bad = in_part_of q e in absurd (false≢true (sym out ∙ bad))) (λ e. e)

  -- rows one after the other
  pub record AllPart (d : Assigning) (xs : Rows) : Type 0 where
    pub pairs : assigned j (rows_only P r) (memory_only P m) (part_assigning d) (rows_only P xs) ≡ memory_only P (assigned j r m d xs)
    pub last : ending j (rows_only P r) (memory_only P m) (part_assigning d) (rows_only P xs) ≡ part_assigning (ending j r m d xs)
    pub fit : Fit (ending j r m d xs)
    pub brings : Each (Brings P) (assigned j r m d xs)

  -- a row that passes, in front
  all_in_front : (d : Assigning) (x : ℕ × List Value) (xs : Rows) → P x.0 ≡ true → row_of new x.0 ≡ Some x.1 → Fit d → AllPart (place_row j r m d x).after xs → AllPart d (x ∷ xs)
  all_in_front d x xs e at fit rest =
      let place = place_row j r m d x in
      let by = step d x e at fit in
      let here = by.same in
      record {
        pairs = rw e (ap (λ (p : Placed). (x.0, p.first, p.second) ∷ assigned j (rows_only P r) (memory_only P m) p.after (rows_only P xs)) here ∙ ap (λ (es : Pairs). (x.0, place.first, place.second) ∷ es) rest.pairs);
        last = rw e (ap (λ (p : Placed). ending j (rows_only P r) (memory_only P m) p.after (rows_only P xs)) here ∙ rest.last);
        fit = rest.fit;
        brings = ((λ pass. (by.first, by.second)), rest.brings);
      }

  -- a row that doesn't pass, in front
  all_out_front : (d : Assigning) (x : ℕ × List Value) (xs : Rows) → P x.0 ≡ false → row_of new x.0 ≡ Some x.1 → AllPart d xs → AllPart d (x ∷ xs)
  all_out_front d x xs e at rest =
      let place = kept_place d x (is_kept x.0 x.1 (not_changed x.0 e) at) in
      let after : d ≡ (place_row j r m d x).after = sym (ap (λ (p : Placed). p.after) place) in
      record {
        pairs = rw e (rest.pairs ∙ ap (λ (k : Assigning). memory_only P (assigned j r m k xs)) after);
        last = rw e (rest.last ∙ ap (λ (k : Assigning). part_assigning (ending j r m k xs)) after);
        fit = subst (λ (k : Assigning). Fit (ending j r m k xs)) after rest.fit;
        brings = ((λ pass. absurd (false≢true (sym e ∙ pass))), subst (λ (k : Assigning). Each (Brings P) (assigned j r m k xs)) after rest.brings);
      }

  -- THE PART ASSIGNS AS THE WHOLE
  pub all_part : (d : Assigning) (xs : Rows) → AreRowsOf new xs → Fit d → AllPart d xs
  all_part d [] are fit = record { pairs = refl; last = refl; fit = fit; brings = tt }
  all_part d (x ∷ xs) are fit =
      by_test (P x.0)
      (λ e. all_in_front d x xs e are.0 fit (all_part (place_row j r m d x).after xs are.1 (step d x e are.0 fit).fit))
      (λ e. all_out_front d x xs e are.0 (all_part d xs are.1 fit))

  -- at the start
  pub start_part : beginning (rows_only P s) (rows_only P t) (rows_only P r) (memory_only P m) (rows_only P new) n ≡ part_assigning (beginning s t r m new n)
  start_part = ap (λ (es : Pairs). record { first = rows_only P s; second = rows_only P t; taken = es; next = n }) (kept_part P r m new)

  pub start_fit : Fit (beginning s t r m new n)
  start_fit = record {
    next = omega arith;
    first_from = λ x q e. inl e;
    second_from = λ x q e. inl e;
    first_rest = refl;
    second_rest = refl;
    taken = λ a b brought. has_part P a b (kept_in r m new) (each_passes P m a b (kept_in r m new) brought (each_kept r m new));
  }
