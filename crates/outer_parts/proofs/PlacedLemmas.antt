-- The entries that the rows of a new R get, in a part and in the whole.
use Rattle.std.proofs.Common.{◌≡◌, ℕ, ◌≤◌, ◌==◌, List, [], ◌∷◌, ◌++◌, Bool, true, false, not, if◌then◌else◌, Option, Some, None, IsSome, refl, ap, sym, ◌∙◌, subst, arith}
use Rattle.std.proofs.lemmas.Bool.{false≢true}
use mathlib.Core.Logic.{inl, inr}
use Rattle.par_base.specs.declared.value.Value.{Value}
use Rattle.par_base.specs.inner.SameLaws.{row_same}
use Rattle.row_store.specs.Rows.{Rows, row_of}
use Rattle.id_memory.specs.Pairs.{Pairs, has_pair, pair_of}
use Rattle.op_law.specs.Local.{rows_only}
use Rattle.op_law.specs.Sound.{PairsSound}
use Rattle.op_law.proofs.OnlyLaws.{row_in}
use Rattle.row_parts.specs.RowCells.{Cell, by_option, by_test}
use Rattle.pair_rows.specs.Given.{Got, got, kept_in, least, or_id, unchanged}
use Rattle.pair_rows.specs.Halves.{first_of, second_of}
use Rattle.pair_rows.specs.Shown.{Joining, has, joined}
use Rattle.pair_rows.specs.inner.Changed.{AreRowsOf}
use Rattle.pair_rows.specs.inner.ShownLaws.{has_joined}
use Rattle.pair_rows.specs.inner.TakenPairs.{has_before, has_behind, unchanged_pair}
use Rattle.outer_law.specs.Entries.{IsOuter, with_absent, with_half}
use Rattle.outer_law.specs.Placed.{Parts, Placed, Placing, ending, first_alone, first_both, first_got, first_more, full, is_present, last_both, last_got, own_alone, parts_of, place_both, place_by, place_changed, place_first, place_halves, place_row, place_second, placed, second_alone, second_both, second_got, second_more, standing}
use Rattle.pair_parts.specs.Parts.{memory_only}
use Rattle.cond_parts.proofs.AssignedLemmas.{chosen_is, memory_behind, pair_below}
use Rattle.cond_parts.proofs.GotLemmas.{LeastFrom, got_from, got_next, got_only, got_part, got_pass, got_rest}
use Rattle.cond_parts.proofs.MemoryLemmas.{Brings, Each, pair_in}
use Rattle.outer_parts.specs.Backward.{BringsPlaced, IsChanged}
use Rattle.outer_parts.proofs.ChoiceLemmas.{AllIds, Chosen, chosen, ids_got}

-- the own half, where it is in no other entry
alone_is : (pick : ℕ × ℕ × ℕ → ℕ) (m : Pairs) (own : Option ℕ) (q : ℕ) → own_alone pick m own ≡ Some q → own ≡ Some q
alone_is pick m None q e = absurd (cc)
alone_is pick m (Some id) q e =
    by_test (with_half pick id m == 1)
    (λ u. rw u at e)
    (λ u. let none : ◌≡◌ {A = Option ℕ} None (Some q) = rw u at e in absurd (cc))

-- the same in a part
alone_same : (pick : ℕ × ℕ × ℕ → ℕ) (m small : Pairs) (own : Option ℕ) → ((q : ℕ) → own ≡ Some q → (with_half pick q small == 1) ≡ (with_half pick q m == 1)) → own_alone pick small own ≡ own_alone pick m own
alone_same pick m small None h = refl
alone_same pick m small (Some id) h = ap (λ (b : Bool). if b then Some id else None) (h id refl)

-- what is found is its own, where there is one
or_own : (own other : Option ℕ) (q : ℕ) → own ≡ Some q → or_id own other ≡ Some q
or_own own other q e = ap (λ (o : Option ℕ). or_id o other) e

module _ (j : Joining) (C P : ℕ → Bool) (n : ℕ) (s t r : Rows) (m : Pairs) (new : Rows) (is : IsOuter j s t r m) (sound : PairsSound n m)
    (in_part_of : (q : ℕ) → C q ≡ true → P q ≡ true) (high : (q : ℕ) → n ≤ q → P q ≡ true) (zero : P 0 ≡ true) (real : (id : ℕ) (row : List Value) → row_of new id ≡ Some row → 1 ≤ n)
    (same_r : (q : ℕ) → C q ≡ false → row_of new q ≡ row_of r q) (c : BringsPlaced j C P s t r m new) where
  -- the rows that may be shared at the start
  abbrev pub first_base : Rows
  first_base = standing first_of (full (kept_in r m new)) s

  abbrev pub second_base : Rows
  second_base = standing second_of (full (kept_in r m new)) t

  -- what is placed, of the part
  abbrev pub part_placing : Placing → Placing
  part_placing d = record {
    first = rows_only P d.first;
    second = rows_only P d.second;
    first_shared = rows_only P d.first_shared;
    second_shared = rows_only P d.second_shared;
    taken = memory_only P d.taken;
    next = d.next;
  }

  abbrev placed_part : Placed → Placed
  placed_part x = record { first = x.first; second = x.second; after = part_placing x.after }

  -- the entries of a pair pass
  abbrev EntryPasses : ℕ → ℕ → Type 0
  EntryPasses a b = (id : ℕ) → pair_of m id ≡ Some (a, b) → P id ≡ true

  abbrev Taken : Pairs → Type 0
  Taken es = (a b : ℕ) → EntryPasses a b → has (memory_only P es) a b ≡ has es a b

  -- what holds of what is placed
  pub record Fit (d : Placing) : Type 0 where
    pub next : n ≤ d.next
    pub first_from : LeastFrom n first_base d.first_shared
    pub second_from : LeastFrom n second_base d.second_shared
    pub first_rest : rows_only (λ q. not (P q)) d.first ≡ rows_only (λ q. not (P q)) s
    pub second_rest : rows_only (λ q. not (P q)) d.second ≡ rows_only (λ q. not (P q)) t
    pub first_real : AllIds (λ q. 1 ≤ q) d.first
    pub second_real : AllIds (λ q. 1 ≤ q) d.second
    pub taken : Taken d.taken

  -- one entry more that passes
  taken_more : (es : Pairs) (e : ℕ × ℕ × ℕ) → P e.0 ≡ true → Taken es → Taken (es ++ e ∷ [])
  taken_more es e pass all u v brought =
      ap (λ (fs : Pairs). has fs u v) (memory_behind P es e pass)
      ∙ by_test (has_pair u v e)
      (λ q. has_behind (memory_only P es) e u v q ∙ sym (has_behind es e u v q))
      (λ q. has_before (memory_only P es) e u v q ∙ all u v brought ∙ sym (has_before es e u v q))

  -- a row that isn't changed keeps its entry
  pub record IsKept (id : ℕ) (row : List Value) : Type 0 where
    pub pair : ℕ × ℕ
    pub is_pair : pair_of m id ≡ Some pair
    pub unchanged_is : unchanged (row_of r id) (pair_of m id) row ≡ Some pair

  pub is_kept : (id : ℕ) (row : List Value) → C id ≡ false → row_of new id ≡ Some row → IsKept id row
  is_kept id row out at =
      let old : row_of r id ≡ Some row = sym (same_r id out) ∙ at in
      let found : row_of (joined j (with_absent j.first s) (with_absent j.second t) m) id ≡ Some row = sym (ap (λ (rows : Rows). row_of rows id) is.joined.rows) ∙ old in
      let some : IsSome (row_of (joined j (with_absent j.first s) (with_absent j.second t) m) id) = subst (λ (x : Cell). IsSome x) (sym found) refl in
      let has_it = has_joined j (with_absent j.first s) (with_absent j.second t) m id is.joined.there some in
      by_option (pair_of m id)
      (λ e. let none : false ≡ true = rw e at has_it in absurd (false≢true none))
      (λ pair e. let same = row_same row in record { pair = pair; is_pair = e; unchanged_is = rw (old, e, same) refl })

  -- how a row that passes is placed: in the part as in the whole, with halves that pass
  pub record Step (p small : Placed) : Type 0 where
    pub same : small ≡ placed_part p
    pub fit : Fit p.after
    pub first : P p.first ≡ true
    pub second : P p.second ≡ true

  -- a changed row
  module _ (d : Placing) (x : ℕ × List Value) (changed : IsChanged C new x.0 x.1) (fit : Fit d) where
    abbrev ps : Parts
    ps = parts_of j r m x

    abbrev a : Got
    a = first_got (parts_of j r m x) d

    abbrev b : Got
    b = second_got (parts_of j r m x) d

    abbrev z : Got
    z = last_got (parts_of j r m x) d

    pass : P x.0 ≡ true
    pass = in_part_of x.0 changed.0

    one : 1 ≤ n
    one = real x.0 x.1 changed.1

    one_next : 1 ≤ d.next
    one_next = let low = one in let more = fit.next in omega (arith, low, more)

    -- with both halves
    first_is : Chosen P n first_base d.first_shared ps.first.own ps.first.values d.first d.next
    first_is = chosen P n first_base d.first_shared ps.first.own ps.first.values d.first d.next fit.next high fit.first_from (λ q e. c.first x.0 x.1 q changed e)

    above : n ≤ a.next
    above = let low = fit.next in let more = first_is.next in omega (arith, low, more)

    second_is : Chosen P n second_base d.second_shared ps.second.own ps.second.values d.second a.next
    second_is = chosen P n second_base d.second_shared ps.second.own ps.second.values d.second a.next above high fit.second_from (λ q e. c.second x.0 x.1 q changed e)

    above_both : n ≤ b.next
    above_both = let low = above in let more = second_is.next in omega (arith, low, more)

    second_small : second_got ps (part_placing d) ≡ got_part P b
    second_small = ap (λ (g : Got). got (second_both ps (part_placing d)) (rows_only P d.second) ps.second.values g.next) first_is.is_part ∙ second_is.is_part

    -- the entry that has both passes
    entry_passes : EntryPasses a.id b.id
    entry_passes id e =
        let below = pair_below n m id a.id b.id sound e in
        let low = below.0 in
        let other_low = below.1 in
        elim first_is.from [
          | inl u ↦ elim second_is.from [ inl v ↦ c.pairs x.0 x.1 a.id b.id id changed u v e | inr far ↦ absurd (omega (arith, far, other_low)) ]
          | inr far ↦ absurd (omega (arith, far, low))
        ]

    last_same : last_both ps (part_placing d) ≡ last_both ps d
    last_same =
        ap (λ (g : Got). if has (memory_only P d.taken) g.id (second_got ps (part_placing d)).id then None else Some g.id) first_is.is_part
        ∙ ap (λ (g : Got). if has (memory_only P d.taken) a.id g.id then None else Some a.id) second_small
        ∙ ap (λ (u : Bool). if u then None else Some a.id) (fit.taken a.id b.id entry_passes)

    last_small : last_got ps (part_placing d) ≡ got_part P z
    last_small =
        ap (λ (o : Option ℕ). got o (first_got ps (part_placing d)).rows ps.first.values (second_got ps (part_placing d)).next) last_same
        ∙ ap (λ (g : Got). got (last_both ps d) g.rows ps.first.values (second_got ps (part_placing d)).next) first_is.is_part
        ∙ ap (λ (g : Got). got (last_both ps d) (rows_only P a.rows) ps.first.values g.next) second_small
        ∙ got_only P (last_both ps d) a.rows ps.first.values b.next (high b.next above_both)

    last_pass : P z.id ≡ true
    last_pass = got_pass P (last_both ps d) a.rows ps.first.values b.next (high b.next above_both) (λ q e. let same = chosen_is (has d.taken a.id b.id) a.id q e in sym (ap P same) ∙ first_is.pass)

    first_more_small : first_more ps (part_placing d) ≡ rows_only P (first_more ps d)
    first_more_small =
        ap (λ (o : Option ℕ). (got o (got (first_both ps (part_placing d)) (rows_only P d.first_shared) ps.first.values d.next).rows ps.first.values (second_got ps (part_placing d)).next).rows) last_same
        ∙ ap (λ (g : Got). (got (last_both ps d) g.rows ps.first.values (second_got ps (part_placing d)).next).rows) first_is.shared_part
        ∙ ap (λ (g : Got). (got (last_both ps d) (rows_only P (got (first_both ps d) d.first_shared ps.first.values d.next).rows) ps.first.values g.next).rows) second_small
        ∙ ap (λ (g : Got). g.rows) (got_only P (last_both ps d) (got (first_both ps d) d.first_shared ps.first.values d.next).rows ps.first.values b.next (high b.next above_both))

    second_more_small : second_more ps (part_placing d) ≡ rows_only P (second_more ps d)
    second_more_small =
        ap (λ (g : Got). (got (second_both ps (part_placing d)) (rows_only P d.second_shared) ps.second.values g.next).rows) first_is.is_part
        ∙ ap (λ (g : Got). g.rows) second_is.shared_part

    -- what is placed, from what was got
    abbrev both_of : Got → Got → Rows → Rows → Pairs → Placed
    both_of g h first_shared second_shared es = record { first = h.id; second = g.id; after = record { first = h.rows; second = g.rows; first_shared = first_shared; second_shared = second_shared; taken = es; next = h.next } }

    both_small : place_both ps (part_placing d) x.0 ≡ placed_part (place_both ps d x.0)
    both_small =
        ap (λ (h : Got). both_of (second_got ps (part_placing d)) h (first_more ps (part_placing d)) (second_more ps (part_placing d)) (memory_only P d.taken ++ (x.0, h.id, (second_got ps (part_placing d)).id) ∷ [])) last_small
        ∙ ap (λ (g : Got). both_of g (got_part P z) (first_more ps (part_placing d)) (second_more ps (part_placing d)) (memory_only P d.taken ++ (x.0, z.id, g.id) ∷ [])) second_small
        ∙ ap (λ (rows : Rows). both_of (got_part P b) (got_part P z) rows (second_more ps (part_placing d)) (memory_only P d.taken ++ (x.0, z.id, b.id) ∷ [])) first_more_small
        ∙ ap (λ (rows : Rows). both_of (got_part P b) (got_part P z) (rows_only P (first_more ps d)) rows (memory_only P d.taken ++ (x.0, z.id, b.id) ∷ [])) second_more_small
        ∙ ap (λ (es : Pairs). both_of (got_part P b) (got_part P z) (rows_only P (first_more ps d)) (rows_only P (second_more ps d)) es) (sym (memory_behind P d.taken (x.0, z.id, b.id) pass))

    both_step : Step (place_both ps d x.0) (place_both ps (part_placing d) x.0)
    both_step = record {
      same = both_small;
      fit = record {
        next = let low = above_both in let more = got_next (last_both ps d) a.rows ps.first.values b.next in omega (arith, low, more);
        first_from = got_from n first_base (last_both ps d) (got (first_both ps d) d.first_shared ps.first.values d.next).rows ps.first.values b.next above_both first_is.least_from;
        second_from = second_is.least_from;
        first_rest = got_rest P (last_both ps d) a.rows ps.first.values b.next (high b.next above_both) ∙ first_is.rest ∙ fit.first_rest;
        second_rest = second_is.rest ∙ fit.second_rest;
        first_real = ids_got (last_both ps d) a.rows ps.first.values b.next (let low = above_both in let more = one in omega (arith, low, more)) (ids_got (first_both ps d) d.first ps.first.values d.next one_next fit.first_real);
        second_real = ids_got (second_both ps d) d.second ps.second.values a.next (let low = above in let more = one in omega (arith, low, more)) fit.second_real;
        taken = taken_more d.taken (x.0, z.id, b.id) pass fit.taken;
      };
      first = last_pass;
      second = second_is.pass;
    }

    -- with one half alone
    first_choice : own_alone first_of (memory_only P m) ps.first.own ≡ own_alone first_of m ps.first.own
    first_choice = alone_same first_of m (memory_only P m) ps.first.own (λ q e. c.first_lone x.0 x.1 q changed e)

    second_choice : own_alone second_of (memory_only P m) ps.second.own ≡ own_alone second_of m ps.second.own
    second_choice = alone_same second_of m (memory_only P m) ps.second.own (λ q e. c.second_lone x.0 x.1 q changed e)

    first_small : first_alone (memory_only P m) ps (part_placing d) ≡ got_part P (first_alone m ps d)
    first_small = ap (λ (o : Option ℕ). got o (rows_only P d.first) ps.first.values d.next) first_choice ∙ got_only P (own_alone first_of m ps.first.own) d.first ps.first.values d.next (high d.next fit.next)

    lone_small : second_alone (memory_only P m) ps (part_placing d) ≡ got_part P (second_alone m ps d)
    lone_small = ap (λ (o : Option ℕ). got o (rows_only P d.second) ps.second.values d.next) second_choice ∙ got_only P (own_alone second_of m ps.second.own) d.second ps.second.values d.next (high d.next fit.next)

    abbrev first_of_got : Got → Pairs → Placed
    first_of_got g es = record { first = g.id; second = 0; after = record (part_placing d) { first = g.rows; taken = es; next = g.next } }

    abbrev second_of_got : Got → Pairs → Placed
    second_of_got g es = record { first = 0; second = g.id; after = record (part_placing d) { second = g.rows; taken = es; next = g.next } }

    first_step : Step (place_first m ps d x.0) (place_first (memory_only P m) ps (part_placing d) x.0)
    first_step =
        let g = first_alone m ps d in
        let choice = own_alone first_of m ps.first.own in
        record {
          same = ap (λ (h : Got). first_of_got h (memory_only P d.taken ++ (x.0, h.id, 0) ∷ [])) first_small ∙ ap (λ (es : Pairs). first_of_got (got_part P g) es) (sym (memory_behind P d.taken (x.0, g.id, 0) pass));
          fit = record {
            next = let low = fit.next in let more = got_next choice d.first ps.first.values d.next in omega (arith, low, more);
            first_from = fit.first_from;
            second_from = fit.second_from;
            first_rest = got_rest P choice d.first ps.first.values d.next (high d.next fit.next) ∙ fit.first_rest;
            second_rest = fit.second_rest;
            first_real = ids_got choice d.first ps.first.values d.next one_next fit.first_real;
            second_real = fit.second_real;
            taken = taken_more d.taken (x.0, g.id, 0) pass fit.taken;
          };
          first = got_pass P choice d.first ps.first.values d.next (high d.next fit.next) (λ q e. c.first x.0 x.1 q changed (or_own ps.first.own (least first_base ps.first.values) q (alone_is first_of m ps.first.own q e)));
          second = zero;
        }

    second_step : Step (place_second m ps d x.0) (place_second (memory_only P m) ps (part_placing d) x.0)
    second_step =
        let g = second_alone m ps d in
        let choice = own_alone second_of m ps.second.own in
        record {
          same = ap (λ (h : Got). second_of_got h (memory_only P d.taken ++ (x.0, 0, h.id) ∷ [])) lone_small ∙ ap (λ (es : Pairs). second_of_got (got_part P g) es) (sym (memory_behind P d.taken (x.0, 0, g.id) pass));
          fit = record {
            next = let low = fit.next in let more = got_next choice d.second ps.second.values d.next in omega (arith, low, more);
            first_from = fit.first_from;
            second_from = fit.second_from;
            first_rest = fit.first_rest;
            second_rest = got_rest P choice d.second ps.second.values d.next (high d.next fit.next) ∙ fit.second_rest;
            first_real = fit.first_real;
            second_real = ids_got choice d.second ps.second.values d.next one_next fit.second_real;
            taken = taken_more d.taken (x.0, 0, g.id) pass fit.taken;
          };
          first = zero;
          second = got_pass P choice d.second ps.second.values d.next (high d.next fit.next) (λ q e. c.second x.0 x.1 q changed (or_own ps.second.own (least second_base ps.second.values) q (alone_is second_of m ps.second.own q e)));
        }

    -- by which halves are present
    halves_step : (u v : Bool) → Step (place_halves m ps d x.0 u v) (place_halves (memory_only P m) ps (part_placing d) x.0 u v)
    halves_step true true = both_step
    halves_step true false = first_step
    halves_step false true = second_step
    halves_step false false = first_step

    pub changed_step : Step (place_changed m ps d x.0) (place_changed (memory_only P m) ps (part_placing d) x.0)
    changed_step = halves_step (is_present ps.first) (is_present ps.second)

  -- the parts of a row that passes
  parts_same : (x : ℕ × List Value) → P x.0 ≡ true → parts_of j (rows_only P r) (memory_only P m) x ≡ parts_of j r m x
  parts_same x pass = let cell = row_in P r x.0 pass in let pair = pair_in P m x.0 pass in rw (cell, pair) refl

  -- a row that passes
  step_by : (d : Placing) (x : ℕ × List Value) (o : Option (ℕ × ℕ)) → unchanged (row_of r x.0) (pair_of m x.0) x.1 ≡ o → row_of new x.0 ≡ Some x.1 → Fit d → P x.0 ≡ true
      → Step (place_by j r m d x o) (place_by j (rows_only P r) (memory_only P m) (part_placing d) x o)
  step_by d x (Some pair) e at fit pass =
      let both = c.rows x.0 pair.0 pair.1 (unchanged_pair (row_of r x.0) (pair_of m x.0) x.1 pair e) pass in
      record { same = refl; fit = fit; first = both.0; second = both.1 }
  step_by d x None e at fit pass =
      by_test (C x.0)
      (λ q. subst (λ (ps : Parts). Step (place_changed m (parts_of j r m x) d x.0) (place_changed (memory_only P m) ps (part_placing d) x.0)) (sym (parts_same x pass)) (changed_step d x (q, at) fit))
      (λ q. let kept = is_kept x.0 x.1 q at in let bad : ◌≡◌ {A = Option (ℕ × ℕ)} None (Some kept.pair) = sym e ∙ kept.unchanged_is in absurd (cc))

  step : (d : Placing) (x : ℕ × List Value) → P x.0 ≡ true → row_of new x.0 ≡ Some x.1 → Fit d → Step (place_row j r m d x) (place_row j (rows_only P r) (memory_only P m) (part_placing d) x)
  step d x pass at fit =
      let cell = row_in P r x.0 pass in
      let pair = pair_in P m x.0 pass in
      let both = step_by d x (unchanged (row_of r x.0) (pair_of m x.0) x.1) refl at fit pass in
      let same : unchanged (row_of (rows_only P r) x.0) (pair_of (memory_only P m) x.0) x.1 ≡ unchanged (row_of r x.0) (pair_of m x.0) x.1 = rw (cell, pair) refl in
      record {
        same = ap (λ (o : Option (ℕ × ℕ)). place_by j (rows_only P r) (memory_only P m) (part_placing d) x o) same ∙ both.same;
        fit = both.fit;
        first = both.first;
        second = both.second;
      }

  -- a row that isn't changed is placed where it was
  pub kept_place : (d : Placing) (x : ℕ × List Value) (kept : IsKept x.0 x.1) → place_row j r m d x ≡ record { first = kept.pair.0; second = kept.pair.1; after = d }
  kept_place d x kept = ap (λ (o : Option (ℕ × ℕ)). place_by j r m d x o) kept.unchanged_is

  -- a row that doesn't pass isn't changed
  not_changed : (q : ℕ) → P q ≡ false → C q ≡ false
  not_changed q out = by_test (C q) (λ e. let bad = in_part_of q e in absurd (false≢true (sym out ∙ bad))) (λ e. e)

  -- rows one after the other
  pub record AllPart (d : Placing) (xs : Rows) : Type 0 where
    pub pairs : placed j (rows_only P r) (memory_only P m) (part_placing d) (rows_only P xs) ≡ memory_only P (placed j r m d xs)
    pub last : ending j (rows_only P r) (memory_only P m) (part_placing d) (rows_only P xs) ≡ part_placing (ending j r m d xs)
    pub fit : Fit (ending j r m d xs)
    pub brings : Each (Brings P) (placed j r m d xs)

  all_in_front : (d : Placing) (x : ℕ × List Value) (xs : Rows) → P x.0 ≡ true → row_of new x.0 ≡ Some x.1 → Fit d → AllPart (place_row j r m d x).after xs → AllPart d (x ∷ xs)
  all_in_front d x xs e at fit rest =
      let place = place_row j r m d x in
      let by = step d x e at fit in
      record {
        pairs = rw e (ap (λ (p : Placed). (x.0, p.first, p.second) ∷ placed j (rows_only P r) (memory_only P m) p.after (rows_only P xs)) by.same ∙ ap (λ (es : Pairs). (x.0, place.first, place.second) ∷ es) rest.pairs);
        last = rw e (ap (λ (p : Placed). ending j (rows_only P r) (memory_only P m) p.after (rows_only P xs)) by.same ∙ rest.last);
        fit = rest.fit;
        brings = ((λ pass. (by.first, by.second)), rest.brings);
      }

  all_out_front : (d : Placing) (x : ℕ × List Value) (xs : Rows) → P x.0 ≡ false → row_of new x.0 ≡ Some x.1 → AllPart d xs → AllPart d (x ∷ xs)
  all_out_front d x xs e at rest =
      let place = kept_place d x (is_kept x.0 x.1 (not_changed x.0 e) at) in
      let after : d ≡ (place_row j r m d x).after = sym (ap (λ (p : Placed). p.after) place) in
      record {
        pairs = rw e (rest.pairs ∙ ap (λ (k : Placing). memory_only P (placed j r m k xs)) after);
        last = rw e (rest.last ∙ ap (λ (k : Placing). part_placing (ending j r m k xs)) after);
        fit = subst (λ (k : Placing). Fit (ending j r m k xs)) after rest.fit;
        brings = ((λ pass. absurd (false≢true (sym e ∙ pass))), subst (λ (k : Placing). Each (Brings P) (placed j r m k xs)) after rest.brings);
      }

  -- THE PART PLACES AS THE WHOLE
  pub all_part : (d : Placing) (xs : Rows) → AreRowsOf new xs → Fit d → AllPart d xs
  all_part d [] are fit = record { pairs = refl; last = refl; fit = fit; brings = tt }
  all_part d (x ∷ xs) are fit =
      by_test (P x.0)
      (λ e. all_in_front d x xs e are.0 fit (all_part (place_row j r m d x).after xs are.1 (step d x e are.0 fit).fit))
      (λ e. all_out_front d x xs e are.0 (all_part d xs are.1 fit))
