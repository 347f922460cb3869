-- JOIN ON FK, from R: closed identifiers are a footprint.
use Rattle.std.proofs.Common.{◌≡◌, ℕ, ◌+◌, ◌-◌, ◌<◌, List, [], ◌∷◌, Bool, true, false, not, cond, length, Option, Some, None, refl, ap, sym, ◌∙◌, subst, arith}
use Rattle.par_base.specs.declared.value.Value.{Value}
use Rattle.par_base.specs.declared.value.Value.TheVariants.{Reference}
use Rattle.par_base.specs.SameRows.{same_row}
use Rattle.par_base.specs.inner.SameLaws.{row_same}
use Rattle.row_store.specs.Rows.{Rows, RiseFrom, row_of}
use Rattle.op_law.specs.Tables.{Tables, Heading, RowsWide}
use Rattle.op_law.specs.Local.{rows_only, only}
use Rattle.pair_parts.specs.Parts.{memory_only, part_of_pair}
use Rattle.op_law.specs.Meaning.{Mapped, Meaning, PairState, flip}
use Rattle.op_law.proofs.OnlyLaws.{row_in, row_out, rise_only}
use Rattle.op_law.proofs.SoundLaws.{wide_at}
use Rattle.op_rows.specs.inner.Tabulated.{all_rise}
use Rattle.row_parts.specs.RowCells.{Cell, or_else, map_cell, id_or, value_or, by_test, by_option}
use Rattle.op_tables.specs.Lookups.{One, Two, two_at, two_rise}
use Rattle.op_tables.specs.SideTables.{first_table, second_table}
use Rattle.row_changes.specs.Changed.{TableChanges, changed_tables}
use Rattle.operator_changes.specs.Calls.{MayChange}
use Rattle.operator_changes.specs.Footprint.{IsFootprint, passes}
use Rattle.foreign_keys.specs.KeyParts.{FkParts, FkWell}
use Rattle.foreign_keys.specs.References.{goal_of, at_goal}
use Rattle.foreign_keys.specs.DrawnIds.{numbered, place}
use Rattle.foreign_keys.specs.Shared.{FkFits}
use Rattle.foreign_keys.specs.inner.DrawnLemmas.{numbered_rise}
use Rattle.op_fk_join.specs.Columns.{side_parts, JoinFits}
use Rattle.op_fk_join.specs.Join.{joined_row, stays_at, first_with, draws_join, left_in, join_second_from, t_from, key_kept, needs_join, join_drawn, ref_join, join_first_in, join_first, s_from, source_from, join_fk}
use Rattle.op_fk_join.specs.inner.ColumnLemmas.{fits}
use Rattle.op_fk_join.specs.inner.JoinLaws.{target_one, source_two}
use Rattle.fk_footprints.specs.Closed.{BringsGoals}
use Rattle.fk_footprints.specs.JoinBackward.{BringsLeast, IsClosedJoinBack, ClosedIsJoinBackFootprint}
use Rattle.fk_footprints.proofs.PartLemmas.{part_may, first_only, second_only, low, first_same, part_is, rest_is}
use Rattle.fk_footprints.proofs.JoinPartLemmas.{goal_in, join_in, join_part}
use Rattle.fk_footprints.proofs.DrawPartLemmas.{drawn_same, numbered_low}

-- a part that has the least row of a value has it as the least
first_part : (P : ℕ → Bool) (t : Rows) (b : List Value) → ((q : ℕ) → first_with t b ≡ Some q → P q ≡ true) → first_with (rows_only P t) b ≡ first_with t b
first_part P [] b brings = refl
first_part P (r ∷ rs) b brings =
    by_test (same_row r.1 b)
    (λ found. let here : P r.0 ≡ true = brings r.0 (rw found refl) in rw here (rw found refl))
    (λ other.
    let rest = first_part P rs b (λ q e. brings q (rw other e)) in
    by_test (P r.0) (λ here. rw here (rw other rest)) (λ out. rw out (rw other rest)))

-- none in place of what is missing changes nothing
or_none : (c : Cell) → or_else c None ≡ c
or_none None = refl
or_none (Some row) = refl

module _ (k : FkParts) where
  -- what new S and new T have
  s_at : (s t : Rows) (n : ℕ) (d : List (List Value)) (near : Rows) (p : ℕ) → row_of (s_from k s t n d near) p ≡ join_first k s t n d near p
  s_at s t n d near p = two_at near s (join_first k s t n d near) p (λ e f. ap (λ (c : Cell). join_first_in k c (row_of s p) t n d) e ∙ ap (λ (c : Cell). left_in (joined_row k c t) c) f)

  t_at : (t made : Rows) (q : ℕ) → row_of (t_from t made) q ≡ or_else (row_of t q) (row_of made q)
  t_at t made q = two_at t made (join_second_from t made) q (λ e f. ap (λ (c : Cell). or_else c (row_of made q)) e ∙ f)

module _ (k : FkParts) (P : ℕ → Bool) (s t near : Rows) (n : ℕ) (goals : BringsGoals k P s t) (least : BringsLeast k P near s t) where
  -- the key that a row keeps
  kept_in : (p : ℕ) (c : Cell) (y : List Value) → P p ≡ true → row_of s p ≡ c → key_kept k c (rows_only P t) y ≡ key_kept k c t y
  kept_in p None y e at = refl
  kept_in p (Some v) y e at = ap (λ (c : Cell). stays_at (k.key v) c y) (goal_in k P s t goals p v e at)

  -- the least row of its T part
  least_in : (p : ℕ) (row : List Value) → P p ≡ true → row_of near p ≡ Some row → key_kept k (row_of s p) t (k.second row) ≡ None → first_with (rows_only P t) (k.second row) ≡ first_with t (k.second row)
  least_in p row e at key = first_part P t (k.second row) (λ q is. least p row q e at key is)

  -- what is drawn and referred to is the same, whatever key is kept
  draws_part : (p : ℕ) (row : List Value) → P p ≡ true → row_of near p ≡ Some row → (o : Option Value) → key_kept k (row_of s p) t (k.second row) ≡ o
      → draws_join o (first_with (rows_only P t) (k.second row)) ≡ draws_join o (first_with t (k.second row))
  draws_part p row e at (Some f) key = refl
  draws_part p row e at None key = ap (draws_join None) (least_in p row e at key)

  key_part : (d : List (List Value)) (p : ℕ) (row : List Value) → P p ≡ true → row_of near p ≡ Some row → (o : Option Value) → key_kept k (row_of s p) t (k.second row) ≡ o
      → value_or (ref_join k (rows_only P t) n d (k.second row)) o ≡ value_or (ref_join k t n d (k.second row)) o
  key_part d p row e at (Some f) key = refl
  key_part d p row e at None key = ap (λ (o : Option ℕ). Reference (id_or (n + place d (k.second row)) o)) (least_in p row e at key)

  -- a row that passes needs the same
  part_needs : (p : ℕ) (row : List Value) → row_of near p ≡ Some row → P p ≡ true → needs_join k (rows_only P s) (rows_only P t) p row ≡ needs_join k s t p row
  part_needs p row at e =
      ap (λ (c : Cell). draws_join (key_kept k c (rows_only P t) (k.second row)) (first_with (rows_only P t) (k.second row))) (row_in P s p e)
      ∙ ap (λ (o : Option Value). draws_join o (first_with (rows_only P t) (k.second row))) (kept_in p (row_of s p) (k.second row) e refl)
      ∙ draws_part p row e at (key_kept k (row_of s p) t (k.second row)) refl

  -- new S has the same there
  part_row : (d : List (List Value)) (p : ℕ) (o : Cell) → P p ≡ true → row_of near p ≡ o → join_first_in k o (row_of s p) (rows_only P t) n d ≡ join_first_in k o (row_of s p) t n d
  part_row d p None e at = ap (λ (x : Cell). left_in x (row_of s p)) (join_in k P s t goals p (row_of s p) e refl)
  part_row d p (Some row) e at =
      ap (λ (o : Option Value). Some (k.put (k.first row) (value_or (ref_join k (rows_only P t) n d (k.second row)) o))) (kept_in p (row_of s p) (k.second row) e refl)
      ∙ ap (λ (f : Value). Some (k.put (k.first row) f)) (key_part d p row e at (key_kept k (row_of s p) t (k.second row)) refl)

  -- the part of new S
  part_first : (d : List (List Value)) → RiseFrom 0 near → RiseFrom 0 s → s_from k (rows_only P s) (rows_only P t) n d (rows_only P near) ≡ rows_only P (s_from k s t n d near)
  part_first d near_rise s_rise =
      part_is P (s_from k (rows_only P s) (rows_only P t) n d (rows_only P near)) (s_from k s t n d near)
      (two_rise (rows_only P near) (rows_only P s) (join_first k (rows_only P s) (rows_only P t) n d (rows_only P near)) (rise_only P 0 near near_rise) (rise_only P 0 s s_rise))
      (two_rise near s (join_first k s t n d near) near_rise s_rise)
      (λ p e. s_at k (rows_only P s) (rows_only P t) n d (rows_only P near) p
      ∙ ap (λ (c : Cell). join_first_in k c (row_of (rows_only P s) p) (rows_only P t) n d) (row_in P near p e)
      ∙ ap (λ (c : Cell). join_first_in k (row_of near p) c (rows_only P t) n d) (row_in P s p e)
      ∙ part_row d p (row_of near p) e refl ∙ sym (s_at k s t n d near p))
      (λ p e. s_at k (rows_only P s) (rows_only P t) n d (rows_only P near) p
      ∙ ap (λ (c : Cell). join_first_in k c (row_of (rows_only P s) p) (rows_only P t) n d) (row_out P near p e)
      ∙ ap (λ (c : Cell). left_in (joined_row k c (rows_only P t)) c) (row_out P s p e))

  -- the part of new T
  part_second : (d : List (List Value)) → ((q : ℕ) → P q ≡ false → q < n) → RiseFrom 0 t → t_from (rows_only P t) (numbered n d) ≡ rows_only P (t_from t (numbered n d))
  part_second d under t_rise =
      part_is P (t_from (rows_only P t) (numbered n d)) (t_from t (numbered n d))
      (two_rise (rows_only P t) (numbered n d) (join_second_from (rows_only P t) (numbered n d)) (rise_only P 0 t t_rise) (numbered_rise 0 n d (omega arith)))
      (two_rise t (numbered n d) (join_second_from t (numbered n d)) t_rise (numbered_rise 0 n d (omega arith)))
      (λ q e. t_at k (rows_only P t) (numbered n d) q ∙ ap (λ (c : Cell). or_else c (row_of (numbered n d) q)) (row_in P t q e) ∙ sym (t_at k t (numbered n d) q))
      (λ q e. t_at k (rows_only P t) (numbered n d) q ∙ ap (λ (c : Cell). or_else c (row_of (numbered n d) q)) (row_out P t q e) ∙ numbered_low n d q (under q e))

module _ (k : FkParts) (w a b z : ℕ) (well : FkWell k w a b z) (s t : Rows) (s_wide : RowsWide z s) (t_wide : RowsWide b t) where
  -- what T has at a goal is as wide as T
  wide_goal : (o : Option ℕ) (u : List Value) → at_goal t o ≡ Some u → length u ≡ b
  wide_goal None u e = absurd (cc)
  wide_goal (Some q) u e = wide_at b t q u t_wide e

  -- a joined row has the part of a row of S, whose key stays
  row_back : {X : Type 0} (p : ℕ) (row : List Value) → joined_row k (row_of s p) t ≡ Some row
      → ((v : List Value) → row_of s p ≡ Some v → k.part v ≡ k.first row → key_kept k (row_of s p) t (k.second row) ≡ Some (k.key v) → X) → X
  row_back p row e f = by_option (row_of s p)
      (λ none. let bad : None ≡ Some row = sym (ap (λ (c : Cell). joined_row k c t) none) ∙ e in absurd (cc))
      (λ v es. by_option (at_goal t (goal_of (k.key v)))
      (λ none. let bad : None ≡ Some row = sym (ap (λ (c : Cell). joined_row k c t) es ∙ ap (map_cell (k.join (k.part v))) none) ∙ e in absurd (cc))
      (λ u at.
      let some : Some row ≡ Some (k.join (k.part v) u) = sym e ∙ ap (λ (c : Cell). joined_row k c t) es ∙ ap (map_cell (k.join (k.part v))) at in
      let is : row ≡ k.join (k.part v) u = cc in
      let lp = well.long_part v (wide_at z s p v s_wide es) in
      let lu = wide_goal (goal_of (k.key v)) u at in
      let second : k.second row ≡ u = ap k.second is ∙ well.second_join _ _ lp lu in
      let first : k.first row ≡ k.part v = ap k.first is ∙ well.first_join _ _ lp lu in
      let same : same_row (k.second row) u ≡ true = subst (λ (x : List Value). same_row x u ≡ true) (sym second) (row_same u) in
      f v es (sym first) (ap (λ (c : Cell). key_kept k c t (k.second row)) es ∙ ap (λ (c : Cell). stays_at (k.key v) c (k.second row)) at ∙ ap (λ (q : Bool). cond q (Some (k.key v)) None) same)))

  -- a row of R that is as it was keeps its key
  pub still_keeps : (p : ℕ) (row : List Value) → joined_row k (row_of s p) t ≡ Some row → key_kept k (row_of s p) t (k.second row) ≡ None → ⊥
  still_keeps p row e none = row_back p row e (λ v es part kept. let bad : Some (k.key v) ≡ None = sym kept ∙ none in absurd (cc))

  -- a row of R that is as it was needs nothing
  still_needs : (p : ℕ) (row : List Value) → joined_row k (row_of s p) t ≡ Some row → needs_join k s t p row ≡ false
  still_needs p row e = row_back p row e (λ v es part kept. ap (λ (o : Option Value). draws_join o (first_with t (k.second row))) kept)

  -- where R is as it was, so is S
  still_first : (n : ℕ) (d : List (List Value)) (p : ℕ) (o : Cell) → joined_row k (row_of s p) t ≡ o → join_first_in k o (row_of s p) t n d ≡ row_of s p
  still_first n d p None e = ap (λ (x : Cell). left_in x (row_of s p)) e
  still_first n d p (Some row) e = row_back p row e (λ v es part kept.
      ap (λ (o : Option Value). Some (k.put (k.first row) (value_or (ref_join k t n d (k.second row)) o))) kept
      ∙ ap (λ (x : List Value). Some (k.put x (k.key v))) (sym part) ∙ ap Some (well.put_parts v (wide_at z s p v s_wide es)) ∙ sym es)

module _ (Fits : List Heading → List Heading → Type 0) (k : FkParts) (w a b z : ℕ) (fit : (hs ht : List Heading) → Fits hs ht → FkFits k w a b z ht hs)
    (near : TableChanges) (p : PairState) (n : ℕ) (ids : List ℕ) (may : MayChange (flip (join_fk Fits k)) near p n) (c : IsClosedJoinBack k near p n ids) where
  -- the operator, as it is crossed
  abbrev m : Meaning
  m = flip (join_fk Fits k)

  -- what passes
  abbrev P : ℕ → Bool
  P = passes ids n

  -- new R as a side
  abbrev whole : Tables
  whole = changed_tables p.source near

  -- old R, S and T, and new R
  abbrev r : Rows
  r = first_table p.source

  abbrev s : Rows
  s = first_table p.target

  abbrev t : Rows
  t = second_table p.target

  abbrev new : Rows
  new = first_table (changed_tables p.source near)

  -- the values that rows are drawn for
  abbrev d : List (List Value)
  d = join_drawn k (first_table p.target) (second_table p.target) (first_table (changed_tables p.source near))

  -- what is known of new R and of the old targets
  one : One w whole
  one = target_one Fits k w a b z fit may.ht may.hs whole may.may.sound.pair.fits may.may.near_of

  two : Two z b p.target
  two = source_two Fits k w a b z fit may.ht may.hs p.target may.may.sound.pair.fits may.may.sound.pair.target_of

  well : FkWell k w a b z
  well = (fit may.ht may.hs may.may.sound.pair.fits).well

  -- R is as it was where nothing passes, and joined there
  still : (q : ℕ) → P q ≡ false → row_of new q ≡ joined_row k (row_of s q) t
  still q e = first_same ids n p.source near (all_rise may.hs p.source may.may.sound.pair.source_of) c.touches q e ∙ may.may.sound.pair.related.1 q

  -- the part draws for the same values
  part_drawn : join_drawn k (rows_only P s) (rows_only P t) (rows_only P new) ≡ d
  part_drawn =
      drawn_same k P (needs_join k s t) (needs_join k (rows_only P s) (rows_only P t)) [] 0 new one.rise (part_needs k P s t new n c.goals c.least)
      (λ x row at e. still_needs k w a b z well s t two.wide0 two.wide1 x row (sym (still x e) ∙ at))

  -- the mapping of the part, by its tables
  part_mapped : m.forward (only P whole) (part_of_pair P p) n ≡ source_from k (rows_only P s) (rows_only P t) (rows_only P new) n
  part_mapped =
      ap (λ (x : Rows). source_from k x (second_table (only P p.target)) (first_table (only P whole)) n) (first_only P p.target)
      ∙ ap (λ (x : Rows). source_from k (rows_only P s) x (first_table (only P whole)) n) (second_only P p.target)
      ∙ ap (λ (x : Rows). source_from k (rows_only P s) (rows_only P t) x n) (first_only P whole)

  part_far : (m.forward (only P whole) (part_of_pair P p) n).far ≡ only P (m.forward whole p n).far
  part_far =
      ap (λ (x : Mapped). x.far) part_mapped
      ∙ ap (λ (l : List (List Value)). s_from k (rows_only P s) (rows_only P t) n l (rows_only P new) ∷ t_from (rows_only P t) (numbered n l) ∷ []) part_drawn
      ∙ ap (λ (x : Rows). x ∷ t_from (rows_only P t) (numbered n d) ∷ []) (part_first k P s t new n c.goals c.least d one.rise two.rise0)
      ∙ ap (λ (x : Rows). rows_only P (s_from k s t n d new) ∷ x ∷ []) (part_second k P s t new n c.goals c.least d (low ids n) two.rise1)

  part_next : (m.forward (only P whole) (part_of_pair P p) n).next ≡ (m.forward whole p n).next
  part_next = ap (λ (x : Mapped). x.next) part_mapped ∙ ap (λ (l : List (List Value)). n + length l) part_drawn

  -- S elsewhere
  rest_first : (q : ℕ) → P q ≡ false → row_of (s_from k s t n d new) q ≡ row_of s q
  rest_first q e = s_at k s t n d new q ∙ still_first k w a b z well s t two.wide0 two.wide1 n d q (row_of new q) (sym (still q e))

  -- T elsewhere
  rest_second : (q : ℕ) → P q ≡ false → row_of (t_from t (numbered n d)) q ≡ row_of t q
  rest_second q e = t_at k t (numbered n d) q ∙ ap (or_else (row_of t q)) (numbered_low n d q (low ids n q e)) ∙ or_none (row_of t q)

  rest : only (λ q. not (P q)) (m.forward whole p n).far ≡ only (λ q. not (P q)) p.target
  rest =
      let Q : ℕ → Bool = λ q. not (P q) in
      ap (λ (x : Rows). x ∷ rows_only Q (t_from t (numbered n d)) ∷ []) (rest_is P (s_from k s t n d new) s (two_rise new s (join_first k s t n d new) one.rise two.rise0) two.rise0 rest_first)
      ∙ ap (λ (x : Rows). rows_only Q s ∷ x ∷ []) (rest_is P (t_from t (numbered n d)) t (two_rise t (numbered n d) (join_second_from t (numbered n d)) two.rise1 (numbered_rise 0 n d (omega arith))) two.rise1 rest_second)
      ∙ ap (only Q) two.is

  -- THE FOOTPRINT
  pub join_back_footprint : IsFootprint (flip (join_fk Fits k)) near p n ids
  join_back_footprint = record {
    rise = c.rise;
    touches = c.touches;
    may = part_may m P may.hs may.ht whole p n may.may may.may.sound.pair.related.0 (may.may.sound.pair.related.0, join_part k P p.target p.source c.goals may.may.sound.pair.related.1);
    far = part_far;
    memory = refl;
    next = part_next;
    rest = rest;
    memory_rest = sym (ap (memory_only (λ q. not (P q))) may.may.sound.pair.related.0);
  }

-- CLOSED IDENTIFIERS ARE A FOOTPRINT
pub closed_join_back : ClosedIsJoinBackFootprint
closed_join_back first second place near p n ids may c =
    join_back_footprint (JoinFits first second place) (side_parts (first - 1) second place) ((first - 1) + second) (first - 1) second ((first - 1) + 1) (fits first second place) near p n ids may c
