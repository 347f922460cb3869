-- What a write of R makes of S and T, where R joins them on a foreign key, in the words of the tables.
use Rattle.std.proofs.Common.{◌≡◌, ℕ, ◌+◌, ◌-◌, ◌≤◌, ◌==◌, List, [], ◌∷◌, Bool, false, cond, length, Option, Some, None, IsSome, refl, ap, sym, ◌∙◌, arith}
use Rattle.par_base.specs.declared.value.Value.{Value}
use Rattle.par_base.specs.declared.value.Value.TheVariants.{Reference}
use Rattle.par_base.specs.SameRows.{same_row}
use Rattle.row_store.specs.Rows.{Rows, RiseFrom, row_of}
use Rattle.row_store.specs.inner.FoundRows.{from_at}
use Rattle.op_law.proofs.SoundLaws.{wide_at}
use Rattle.row_parts.specs.RowCells.{Cell, or_else, map_cell, id_or, value_or, by_test, by_option}
use Rattle.op_tables.specs.Lookups.{sound0, sound1}
use Rattle.op_tables.specs.inner.CellFacts.{is_some}
use Rattle.foreign_keys.specs.KeyParts.{FkParts, FkWell}
use Rattle.foreign_keys.specs.References.{goal_of, at_goal}
use Rattle.foreign_keys.specs.DrawnIds.{numbered, place as place_in}
use Rattle.foreign_keys.specs.Shared.{FkFits, Ready}
use Rattle.foreign_keys.specs.inner.DrawnLemmas.{drawn_none}
use Rattle.op_fk_join.specs.Columns.{side_parts, JoinFits}
use Rattle.op_fk_join.specs.Join.{joined_row, stays_at, key_kept, first_with, draws_join, needs_join, join_drawn, ref_join, left_in, join_first_in}
use Rattle.op_fk_join.specs.inner.ColumnLemmas.{fits}
use Rattle.op_fk_join.specs.inner.JoinFacts.{first_at_of}
use Rattle.op_fk_join.specs.inner.JoinTables.{s_at, t_at}
use Rattle.op_fk_join.specs.inner.JoinLaws.{target_one, source_two}
use Rattle.key_laws.specs.JoinedByKey.{Rewritten, old_r, old_s, old_t, new_r, new_s, new_t, made, RefersAnew, IsKeyed, SamePartKeepsReference, EqualPartsReferAlike, LeastRowIsFound, OldValuesDrawNothing, OtherRowsStay, DeletedRowGoes}
use Rattle.key_laws.proofs.ReferringLemmas.{told_apart, told_same}

-- a value that a row has: the least row with it is there, and not above this one
least_of : (n : ℕ) (rows : Rows) (b : List Value) (q : ℕ) → RiseFrom n rows → row_of rows q ≡ Some b → (i : ℕ) × (first_with rows b ≡ Some i) × (i ≤ q)
least_of n [] b q rise at = absurd (cc)
least_of n (r ∷ rs) b q rise at =
    by_test (same_row r.1 b)
    (λ g. (r.0, rw g refl, from_at r.0 (r ∷ rs) q b (omega arith, rise.1) at))
    (λ g.
    by_test (r.0 == q)
    (λ e.
    let some : Some r.1 ≡ Some b = rw e at at in
    let is : r.1 ≡ b = cc in
    let same = told_same r.1 b is in
    absurd (cc))
    (λ e.
    let later : row_of rs q ≡ Some b = rw e at at in
    let rest = least_of (r.0 + 1) rs b q rise.1 later in
    (rest.0, rw g rest.1, rest.2)))

module _ (first second place : ℕ) (w : Rewritten first second place) where
  -- the parts of its rows
  abbrev k : FkParts
  k = side_parts (first - 1) second place

  -- old S
  abbrev s : Rows
  s = old_s w

  -- old T
  abbrev t : Rows
  t = old_t w

  -- old R
  abbrev r : Rows
  r = old_r w

  -- new R
  abbrev near : Rows
  near = new_r w

  -- how many columns R has
  abbrev wide : ℕ
  wide = (first - 1) + second

  -- and S
  abbrev long_s : ℕ
  long_s = (first - 1) + 1

  -- the parts fit the headings
  fit : FkFits k wide (first - 1) second long_s w.ht w.hs
  fit = fits first second place w.hs w.ht w.may.sound.pair.fits

  -- so they fit each other
  well : FkWell k wide (first - 1) second long_s
  well = fit.well

  -- what is used of the tables
  ok : Ready wide second long_s s t near w.n
  ok =
      let one = target_one (JoinFits first second place) k wide (first - 1) second long_s (fits first second place) w.hs w.ht w.near w.may.sound.pair.fits w.may.near_of in
      let two = source_two (JoinFits first second place) k wide (first - 1) second long_s (fits first second place) w.hs w.ht w.old.source w.may.sound.pair.fits w.may.sound.pair.target_of in
      record {
        s_rise = two.rise0;
        t_rise = two.rise1;
        near_rise = one.rise;
        s_wide = two.wide0;
        t_wide = two.wide1;
        near_wide = one.wide;
        s_below = sound0 w.n w.old.source w.may.sound.target;
        t_below = sound1 w.n w.old.source w.may.sound.target;
        near_below = sound0 w.n w.near w.may.near_sound;
      }

  -- old R is the old tables joined
  rel : (p : ℕ) → row_of r p ≡ joined_row k (row_of s p) t
  rel p = w.may.sound.pair.related.1 p

  -- the values that are drawn for
  abbrev drawn : List (List Value)
  drawn = join_drawn k s t near

  -- the key of a new row
  abbrev key_for : List Value → Option Value → Value
  key_for x o = value_or (ref_join k t w.n drawn (k.second x)) o

  -- how long a T part is
  wide_goal : (o : Option ℕ) (u : List Value) → at_goal t o ≡ Some u → length u ≡ second
  wide_goal None u e = absurd (cc)
  wide_goal (Some q) u e = wide_at second t q u ok.t_wide e

  -- what stands behind a row of R
  behind : {X : Type 0} (p : ℕ) (was : List Value) → row_of r p ≡ Some was → ((v u : List Value) → row_of s p ≡ Some v → at_goal t (goal_of (k.key v)) ≡ Some u → k.second was ≡ u → X) → X
  behind p was at f = by_option (row_of s p)
      (λ none. let bad : Some was ≡ None = sym at ∙ rel p ∙ ap (λ (c : Cell). joined_row k c t) none in absurd (cc))
      (λ v here. by_option (at_goal t (goal_of (k.key v)))
      (λ none. let bad : Some was ≡ None = sym at ∙ rel p ∙ ap (λ (c : Cell). joined_row k c t) here ∙ ap (map_cell (k.join (k.part v))) none in absurd (cc))
      (λ u there.
      let some : Some was ≡ Some (k.join (k.part v) u) = sym at ∙ rel p ∙ ap (λ (c : Cell). joined_row k c t) here ∙ ap (map_cell (k.join (k.part v))) there in
      let is : was ≡ k.join (k.part v) u = cc in
      f v u here there (ap k.second is ∙ well.second_join _ _ (well.long_part v (wide_at long_s s p v ok.s_wide here)) (wide_goal (goal_of (k.key v)) u there))))

  -- the key stays where the T part is as it was
  stays : (p : ℕ) (v u x : List Value) → row_of s p ≡ Some v → at_goal t (goal_of (k.key v)) ≡ Some u → k.second x ≡ u → key_kept k (row_of s p) t (k.second x) ≡ Some (k.key v)
  stays p v u x here there same =
      ap (λ (c : Cell). key_kept k c t (k.second x)) here ∙ ap (λ (c : Cell). stays_at (k.key v) c (k.second x)) there
      ∙ ap (λ (b : Bool). cond b (Some (k.key v)) None) (told_same (k.second x) u same)

  -- and is made anew where it is another
  none_stays : (c : Cell) (y : List Value) → joined_row k c t ≡ None → key_kept k c t y ≡ None
  none_stays None y e = refl
  none_stays (Some v) y e = by_option (at_goal t (goal_of (k.key v)))
      (λ none. ap (λ (c : Cell). stays_at (k.key v) c y) none)
      (λ u there. let bad : None ≡ Some (k.join (k.part v) u) = sym e ∙ ap (map_cell (k.join (k.part v))) there in absurd (cc))

  -- the same, of a row of R
  anew : (p : ℕ) (x : List Value) → RefersAnew w p x → key_kept k (row_of s p) t (k.second x) ≡ None
  anew p x new = by_option (row_of r p)
      (λ none. none_stays (row_of s p) (k.second x) (sym (rel p) ∙ none))
      (λ was at. behind p was at (λ v u here there is.
      ap (λ (c : Cell). key_kept k c t (k.second x)) here ∙ ap (λ (c : Cell). stays_at (k.key v) c (k.second x)) there
      ∙ ap (λ (b : Bool). cond b (Some (k.key v)) None) (told_apart (k.second x) u (λ same. new.1 was at (is ∙ sym same)))))

  -- a key that is made anew is one of another T part
  is_anew : (p : ℕ) (x : List Value) → row_of near p ≡ Some x → key_kept k (row_of s p) t (k.second x) ≡ None → RefersAnew w p x
  is_anew p x at none = (
    at,
    λ was shown same. behind p was shown (λ v u here there is.
        let bad : None ≡ Some (k.key v) = sym none ∙ stays p v u x here there (sym same ∙ is) in absurd (cc)),
  )

  -- what new S has
  keyed : (p : ℕ) (x : List Value) (o : Option Value) → row_of near p ≡ Some x → key_kept k (row_of s p) t (k.second x) ≡ o → IsKeyed w p x (key_for x o)
  keyed p x o at kept =
      s_at k wide (first - 1) second long_s well s t near w.n ok p
      ∙ ap (λ (c : Cell). join_first_in k c (row_of s p) t w.n drawn) at
      ∙ ap (λ (o : Option Value). Some (k.put (k.first x) (key_for x o))) kept

  pub keeps : (p : ℕ) (x was v : List Value) → row_of near p ≡ Some x → row_of r p ≡ Some was → k.second x ≡ k.second was → row_of s p ≡ Some v → IsKeyed w p x (k.key v)
  keeps p x was v at shown same own = behind p was shown (λ y u here there is.
      let some : Some y ≡ Some v = sym here ∙ own in
      let one : y ≡ v = cc in
      keyed p x (Some (k.key y)) at (stays p y u x here there (same ∙ is)) ∙ ap (λ (v : List Value). Some (k.put (k.first x) (k.key v))) one)

  pub refer_alike : (p q : ℕ) (x y : List Value) → RefersAnew w p x → RefersAnew w q y → k.second x ≡ k.second y → (key : Value) × IsKeyed w p x key × IsKeyed w q y key
  refer_alike p q x y one other same = (
    key_for x None,
    keyed p x None one.0 (anew p x one),
    keyed q y None other.0 (anew q y other) ∙ ap (λ (b : List Value). Some (k.put (k.first y) (ref_join k t w.n drawn b))) (sym same),
  )

  pub is_found : (p q : ℕ) (x : List Value) → RefersAnew w p x → row_of t q ≡ Some (k.second x) → (i : ℕ) × (i ≤ q) × (row_of t i ≡ Some (k.second x)) × IsKeyed w p x (Reference i)
  is_found p q x new at =
      let one = least_of 0 t (k.second x) q ok.t_rise at in (
        one.0,
        one.2,
        first_at_of 0 t (k.second x) one.0 ok.t_rise one.1,
        keyed p x None new.0 (anew p x new) ∙ ap (λ (o : Option ℕ). Some (k.put (k.first x) (Reference (id_or (w.n + place_in drawn (k.second x)) o)))) one.1,
      )

  pub draws_nothing : ((p : ℕ) (x : List Value) → RefersAnew w p x → (q : ℕ) × (row_of t q ≡ Some (k.second x))) → (made w).next ≡ w.n
  draws_nothing known =
      let no_need : (p : ℕ) (x : List Value) → row_of near p ≡ Some x → needs_join k s t p x ≡ false =
      λ p x at.
      by_option (key_kept k (row_of s p) t (k.second x))
      (λ none.
      let there = known p x (is_anew p x at none) in
      let one = least_of 0 t (k.second x) there.0 ok.t_rise there.1 in
      ap (λ (o : Option Value). draws_join o (first_with t (k.second x))) none ∙ ap (draws_join None) one.1)
      (λ f kept. ap (λ (o : Option Value). draws_join o (first_with t (k.second x))) kept) in
      let none : drawn ≡ [] = drawn_none k 0 (needs_join k s t) near ok.near_rise no_need in
      let still : w.n + 0 ≡ w.n = omega arith in
      ap (λ (d : List (List Value)). w.n + length d) none ∙ still

  pub others_stay : ((p : ℕ) → row_of r p ≡ None → row_of near p ≡ None → row_of (new_s w) p ≡ row_of s p) × ((q : ℕ) (value : List Value) → row_of t q ≡ Some value → row_of (new_t w) q ≡ Some value)
  others_stay = (
    λ p none gone.
        s_at k wide (first - 1) second long_s well s t near w.n ok p
        ∙ ap (λ (c : Cell). join_first_in k c (row_of s p) t w.n drawn) gone
        ∙ ap (λ (c : Cell). left_in c (row_of s p)) (sym (rel p) ∙ none),
    λ q value at.
        t_at k wide (first - 1) second long_s well s t near w.n ok q
        ∙ ap (λ (c : Cell). or_else c (row_of (numbered w.n drawn) q)) at,
  )

  pub goes : (p : ℕ) → IsSome (row_of r p) → row_of near p ≡ None → row_of (new_s w) p ≡ None
  goes p some gone = is_some (row_of r p) some (λ was at.
      s_at k wide (first - 1) second long_s well s t near w.n ok p
      ∙ ap (λ (c : Cell). join_first_in k c (row_of s p) t w.n drawn) gone
      ∙ ap (λ (c : Cell). left_in c (row_of s p)) (sym (rel p) ∙ at))

-- the laws

pub part_keeps : SamePartKeepsReference
part_keeps first second place w p x was v at shown same own = keeps first second place w p x was v at shown same own

pub parts_refer_alike : EqualPartsReferAlike
parts_refer_alike first second place w p q x y one other same = refer_alike first second place w p q x y one other same

pub least_found : LeastRowIsFound
least_found first second place w p q x new at = is_found first second place w p q x new at

pub old_values_draw_nothing : OldValuesDrawNothing
old_values_draw_nothing first second place w known = draws_nothing first second place w known

pub other_rows_stay : OtherRowsStay
other_rows_stay first second place w = others_stay first second place w

pub deleted_goes : DeletedRowGoes
deleted_goes first second place w p some gone = goes first second place w p some gone
