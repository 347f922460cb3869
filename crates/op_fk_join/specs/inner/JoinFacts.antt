-- JOIN ON FK, backward: what the new tables have at each identifier.
use Rattle.std.proofs.Common.{◌≡◌, ℕ, ◌+◌, ◌<◌, ◌≤◌, List, [], ◌∷◌, Bool, true, false, cond, length, Option, Some, None, refl, ap, sym, ◌∙◌, subst, arith}
use Rattle.par_base.specs.declared.value.Value.{Value}
use Rattle.row_store.specs.Rows.{Rows, RiseFrom, row_of}
use Rattle.row_store.specs.inner.FoundRows.{later, own_row}
use Rattle.row_parts.specs.RowCells.{Cell, or_else, map_cell, id_or, value_or, by_test, by_option}
use Rattle.foreign_keys.specs.KeyParts.{FkParts, FkWell}
use Rattle.foreign_keys.specs.References.{goal_of, at_goal}
use Rattle.foreign_keys.specs.DrawnIds.{numbered, place}
use Rattle.foreign_keys.specs.inner.ReferenceLemmas.{goal_below}
use Rattle.foreign_keys.specs.inner.DrawnLemmas.{numbered_at, has_needed, low_none}
use Rattle.op_fk_join.specs.Join.{joined_row, stays_at, key_kept, first_with, draws_join, needs_join, join_drawn, ref_join, left_in, join_first_in, join_first, join_second}
use Rattle.foreign_keys.specs.Shared.{Ready}
use Rattle.par_base.specs.SameRows.{same_row}
use Rattle.par_base.specs.inner.SameLaws.{row_equal, row_same}
use Rattle.op_law.proofs.SoundLaws.{sound_at, wide_at}

-- the least row with a value has the value
pub first_at_of : (m : ℕ) (rows : Rows) (b : List Value) (q : ℕ) → RiseFrom m rows → first_with rows b ≡ Some q → row_of rows q ≡ Some b
first_at_of m [] b q rise e = absurd (cc)
first_at_of m (r ∷ rs) b q rise e =
    by_test (same_row r.1 b)
    (λ g.
    let some : Some r.0 ≡ Some q = rw g at e in
    let i : r.0 ≡ q = cc in
    subst (λ (x : ℕ). row_of (r ∷ rs) x ≡ Some b) i (own_row r rs ∙ ap Some (row_equal r.1 b g)))
    (λ g. let e2 : first_with rs b ≡ Some q = rw g at e in later r rs q b rise.1 (first_at_of (r.0 + 1) rs b q rise.1 e2))

module _ (k : FkParts) where
  -- a key that stays refers to a row of this value
  pub from_keeps : (c : Cell) (t : Rows) (y : List Value) (f : Value) → key_kept k c t y ≡ Some f → at_goal t (goal_of f) ≡ Some y
  from_keeps None t y f e = absurd (cc)
  from_keeps (Some v) t y f e =
      by_option (at_goal t (goal_of (k.key v)))
      (λ none. let bad : None ≡ Some f = sym (ap (λ (c : Cell). stays_at (k.key v) c y) none) ∙ e in absurd (cc))
      (λ u at.
      let e2 : cond (same_row y u) (Some (k.key v)) None ≡ Some f = sym (ap (λ (c : Cell). stays_at (k.key v) c y) at) ∙ e in
      by_test (same_row y u)
      (λ g.
      let some : Some (k.key v) ≡ Some f = rw g at e2 in
      let i : k.key v ≡ f = cc in
      subst (λ (x : Value). at_goal t (goal_of x) ≡ Some y) i (at ∙ ap Some (sym (row_equal y u g))))
      (λ g. let bad : None ≡ Some f = rw g at e2 in absurd (cc)))

  -- where R has no row, S stays
  no_row : (c : Cell) (t : Rows) → joined_row k c t ≡ None → left_in (joined_row k c t) c ≡ c
  no_row c t e = ap (λ (x : Cell). left_in x c) e

module _ (k : FkParts) (w a b z : ℕ) (well : FkWell k w a b z) (s t near : Rows) (n : ℕ) (ok : Ready w b z s t near n) where
  -- the values that are drawn for
  abbrev dd : List (List Value)
  dd = join_drawn k s t near

  -- old T has no row from the next identifier on
  high_none : (q : ℕ) → n ≤ q → row_of t q ≡ None
  high_none q h = by_option (row_of t q) (λ e. e) (λ v e. let u = (sound_at n t q v ok.t_below e).0.1 in absurd (omega (arith, u, h)))

  -- the drawn row of a value that is needed
  drawn_at : (p : ℕ) (row : List Value) → row_of near p ≡ Some row → needs_join k s t p row ≡ true → join_second t n dd (n + place dd (k.second row)) ≡ Some (k.second row)
  drawn_at p row at need =
      ap (λ (c : Cell). or_else c (row_of (numbered n dd) (n + place dd (k.second row)))) (high_none _ (omega arith))
      ∙ numbered_at n dd (k.second row) (has_needed k (needs_join k s t) [] near p row at need)

  -- an old row stays
  old_at : (q : ℕ) (v : List Value) → row_of t q ≡ Some v → join_second t n dd q ≡ Some v
  old_at q v e = ap (λ (c : Cell). or_else c (row_of (numbered n dd) q)) e

  -- the new reference meets the value of the row
  ref_meets : (p : ℕ) (row : List Value) → row_of near p ≡ Some row → key_kept k (row_of s p) t (k.second row) ≡ None → join_second t n dd (id_or (n + place dd (k.second row)) (first_with t (k.second row))) ≡ Some (k.second row)
  ref_meets p row at none = by_option (first_with t (k.second row))
      (λ e. ap (λ (o : Option ℕ). join_second t n dd (id_or (n + place dd (k.second row)) o)) e
      ∙ drawn_at p row at (ap (λ (o : Option Value). draws_join o (first_with t (k.second row))) none ∙ ap (draws_join None) e))
      (λ q e. ap (λ (o : Option ℕ). join_second t n dd (id_or (n + place dd (k.second row)) o)) e ∙ old_at q (k.second row) (first_at_of 0 t (k.second row) q ok.t_rise e))

  -- a part of no row is of no row
  map_none : (f : List Value → List Value) (c : Cell) → map_cell f c ≡ None → c ≡ None
  map_none f None e = refl
  map_none f (Some v) e = absurd (cc)

  -- what old T has at a goal, new T has
  goal_stays : (nt : Rows) → ((q : ℕ) → row_of nt q ≡ join_second t n dd q) → (o : Option ℕ) (y : List Value) → at_goal t o ≡ Some y → at_goal nt o ≡ Some y
  goal_stays nt at_t None y e = absurd (cc)
  goal_stays nt at_t (Some q) y e = at_t q ∙ old_at q y e

  -- new T lacks an old goal that old T lacks
  goal_lacks : (nt : Rows) → ((q : ℕ) → row_of nt q ≡ join_second t n dd q) → (o : Option ℕ) → ((q : ℕ) → o ≡ Some q → q < n) → at_goal t o ≡ None → at_goal nt o ≡ None
  goal_lacks nt at_t None low e = refl
  goal_lacks nt at_t (Some q) low e = at_t q ∙ ap (λ (c : Cell). or_else c (row_of (numbered n dd) q)) e ∙ low_none k w a b z well (needs_join k s t) near n q (low q refl)

  -- the foreign key of a new row refers to a row of its T part
  new_goal : (nt : Rows) → ((q : ℕ) → row_of nt q ≡ join_second t n dd q) → (p : ℕ) (row : List Value) → row_of near p ≡ Some row
      → at_goal nt (goal_of (value_or (ref_join k t n dd (k.second row)) (key_kept k (row_of s p) t (k.second row)))) ≡ Some (k.second row)
  new_goal nt at_t p row at = by_option (key_kept k (row_of s p) t (k.second row))
      (λ e. ap (λ (o : Option Value). at_goal nt (goal_of (value_or (ref_join k t n dd (k.second row)) o))) e ∙ at_t (id_or (n + place dd (k.second row)) (first_with t (k.second row))) ∙ ref_meets p row at e)
      (λ f e. ap (λ (o : Option Value). at_goal nt (goal_of (value_or (ref_join k t n dd (k.second row)) o))) e ∙ goal_stays nt at_t (goal_of f) (k.second row) (from_keeps k (row_of s p) t (k.second row) f e))

  -- the relation after the mapping, for tables with these look-ups
  pub join_kept : (ns nt : Rows) → ((p : ℕ) → row_of ns p ≡ join_first k s t n dd near p) → ((q : ℕ) → row_of nt q ≡ join_second t n dd q) → (p : ℕ) → row_of near p ≡ joined_row k (row_of ns p) nt
  join_kept ns nt at_s at_t p = by_option (row_of near p)
      (λ e.
      let here : row_of ns p ≡ left_in (joined_row k (row_of s p) t) (row_of s p) = at_s p ∙ ap (λ (c : Cell). join_first_in k c (row_of s p) t n dd) e in
      e ∙ sym (by_option (joined_row k (row_of s p) t)
      (λ none.
      let same = here ∙ no_row k (row_of s p) t none in
      ap (λ (c : Cell). joined_row k c nt) same ∙ by_option (row_of s p)
      (λ es. ap (λ (c : Cell). joined_row k c nt) es)
      (λ v es.
      let lacks : at_goal t (goal_of (k.key v)) ≡ None = map_none (k.join (k.part v)) (at_goal t (goal_of (k.key v))) (sym (ap (λ (c : Cell). joined_row k c t) es) ∙ none) in
      ap (λ (c : Cell). joined_row k c nt) es ∙ ap (map_cell (k.join (k.part v))) (goal_lacks nt at_t (goal_of (k.key v)) (λ q g. (goal_below n (k.key v) q (well.sound_key n v (sound_at n s p v ok.s_below es).1) g).1) lacks)))
      (λ old some. ap (λ (c : Cell). joined_row k c nt) (here ∙ ap (λ (c : Cell). left_in c (row_of s p)) some))))
      (λ row e.
      let f = value_or (ref_join k t n dd (k.second row)) (key_kept k (row_of s p) t (k.second row)) in
      let wide = wide_at w near p row ok.near_wide e in
      let long = well.long_first row wide in
      e ∙ sym (ap (λ (c : Cell). joined_row k c nt) (at_s p ∙ ap (λ (c : Cell). join_first_in k c (row_of s p) t n dd) e)
      ∙ ap (λ (x : List Value). map_cell (k.join x) (at_goal nt (goal_of (k.key (k.put (k.first row) f))))) (well.part_put (k.first row) f long)
      ∙ ap (λ (x : Value). map_cell (k.join (k.first row)) (at_goal nt (goal_of x))) (well.key_put (k.first row) f long)
      ∙ ap (map_cell (k.join (k.first row))) (new_goal nt at_t p row e) ∙ ap Some (well.join_parts row wide)))

  -- what T has at a goal is as wide as T
  wide_goal : (o : Option ℕ) (u : List Value) → at_goal t o ≡ Some u → length u ≡ b
  wide_goal None u e = absurd (cc)
  wide_goal (Some q) u e = wide_at b t q u ok.t_wide e

  -- a row of R is the row of both, and its foreign key stays
  row_is : {X : Type 0} → ((p : ℕ) → row_of near p ≡ joined_row k (row_of s p) t) → (p : ℕ) (row : List Value) → row_of near p ≡ Some row
      → ((v u : List Value) → row_of s p ≡ Some v → k.part v ≡ k.first row → key_kept k (row_of s p) t (k.second row) ≡ Some (k.key v) → X) → X
  row_is rel p row e f = by_option (row_of s p)
      (λ none. let bad : Some row ≡ None = sym e ∙ rel p ∙ ap (λ (c : Cell). joined_row k c t) none in absurd (cc))
      (λ v es. by_option (at_goal t (goal_of (k.key v)))
      (λ none. let bad : Some row ≡ None = sym e ∙ rel p ∙ ap (λ (c : Cell). joined_row k c t) es ∙ ap (map_cell (k.join (k.part v))) none in absurd (cc))
      (λ u at.
      let some : Some row ≡ Some (k.join (k.part v) u) = sym e ∙ rel p ∙ ap (λ (c : Cell). joined_row k c t) es ∙ ap (map_cell (k.join (k.part v))) at in
      let is : row ≡ k.join (k.part v) u = cc in
      let lp = well.long_part v (wide_at z s p v ok.s_wide es) in
      let lu = wide_goal (goal_of (k.key v)) u at in
      let second : k.second row ≡ u = ap k.second is ∙ well.second_join _ _ lp lu in
      let first : k.first row ≡ k.part v = ap k.first is ∙ well.first_join _ _ lp lu in
      let same : same_row (k.second row) u ≡ true = subst (λ (x : List Value). same_row x u ≡ true) (sym second) (row_same u) in
      f v u es (sym first) (ap (λ (c : Cell). key_kept k c t (k.second row)) es ∙ ap (λ (c : Cell). stays_at (k.key v) c (k.second row)) at ∙ ap (λ (q : Bool). cond q (Some (k.key v)) None) same)))

  -- a near side equal to the old one: no row needs a draw, and S is as it was
  pub join_needs_none : ((p : ℕ) → row_of near p ≡ joined_row k (row_of s p) t) → (p : ℕ) (row : List Value) → row_of near p ≡ Some row → needs_join k s t p row ≡ false
  join_needs_none rel p row e = row_is rel p row e (λ v u es part kept. ap (λ (o : Option Value). draws_join o (first_with t (k.second row))) kept)

  -- S is as it was where R is
  pub join_first_still : ((p : ℕ) → row_of near p ≡ joined_row k (row_of s p) t) → (p : ℕ) → join_first k s t n dd near p ≡ row_of s p
  join_first_still rel p = by_option (row_of near p)
      (λ e. ap (λ (c : Cell). join_first_in k c (row_of s p) t n dd) e ∙ no_row k (row_of s p) t (sym (rel p) ∙ e))
      (λ row e. row_is rel p row e (λ v u es part kept.
      ap (λ (c : Cell). join_first_in k c (row_of s p) t n dd) e ∙ ap (λ (o : Option Value). Some (k.put (k.first row) (value_or (ref_join k t n dd (k.second row)) o))) kept
      ∙ ap (λ (x : List Value). Some (k.put x (k.key v))) (sym part) ∙ ap Some (well.put_parts v (wide_at z s p v ok.s_wide es)) ∙ sym es))
