-- The pairs that the rows of a new joined table get, in the words of the tables.
use Rattle.std.specs.Prelude.{◌≢◌}
use Rattle.std.specs.Option.{option_map}
use Rattle.std.proofs.Common.{◌≡◌, ℕ, ◌+◌, ◌==◌, List, [], ◌∷◌, ◌++◌, length, Bool, true, false, not, ◌||◌, Option, Some, None, IsSome, refl, ap, sym, ◌∙◌, subst}
use Rattle.std.proofs.lemmas.Bool.{eqb-true, eq-eqb}
use Rattle.par_base.specs.declared.value.Value.{Value}
use Rattle.par_base.specs.SameRows.{same_row}
use Rattle.par_base.specs.inner.SameLaws.{row_same}
use Rattle.row_store.specs.Rows.{Rows, row_of}
use Rattle.id_memory.specs.Pairs.{Pairs, RiseFrom, pair_of}
use Rattle.op_law.specs.Meaning.{exchanged}
use Rattle.op_law.specs.Sound.{RowsSound}
use Rattle.op_law.proofs.SoundLaws.{below_sound}
use Rattle.row_parts.specs.Places.{pick as part, ArePartition}
use Rattle.row_parts.specs.RowCells.{Cell, by_test, by_option}
use Rattle.pair_rows.specs.Halves.{first_of, second_of}
use Rattle.pair_rows.specs.Shown.{Joining, IsJoined}
use Rattle.pair_rows.specs.Sides.{JoinFits}
use Rattle.pair_rows.specs.Stays.{stands}
use Rattle.pair_rows.specs.Given.{got, own, or_id, least, unchanged}
use Rattle.pair_rows.specs.inner.Lookups.{filter_found, filter_lost}
use Rattle.pair_rows.specs.inner.ShownLaws.{row_for, joined_found, joined_has}
use Rattle.pair_rows.specs.inner.TwoSides.{TwoTables, two_tables, table_sound}
use Rattle.op_cond_join.specs.Assigned.{Assigning, Placed, first_got, place_changed, place_by, place_row, assigned, ending, beginning}
use Rattle.op_cond_join.specs.inner.AssignedLaws.{Ready, Grown, start_ready, end_grown}
use Rattle.op_cond_join.specs.inner.JoinOnLaws.{backward_kept}
use Rattle.key_laws.specs.PairsGiven.{HasFirst, HasSecond, JoinedWritten, joined_before, joined_after, first_before, second_before, first_after, second_after, given_before, given_after, UnchangedRowKeepsPair, RowInNoPairStays, RowInAPairIsAsItWas, RowGoesWithItsLastPair, EqualPartsShareARow}
use Rattle.key_laws.proofs.ReferringLemmas.{told_apart}
use Rattle.key_laws.proofs.PairsShownLemmas.{both_of, behind_first}

-- an identifier that stands in a pair of a memory
abbrev StandsIn : (ℕ × ℕ × ℕ → ℕ) → Pairs → ℕ → Type 0
StandsIn pick m id = (p : ℕ) × (x : ℕ × ℕ) × (pair_of m p ≡ Some x) × (pick (p, x.0, x.1) ≡ id)

-- from the test of the operator
stands_in : (pick : ℕ × ℕ × ℕ → ℕ) (n : ℕ) (m : Pairs) (id : ℕ) → RiseFrom n m → stands pick m id ≡ true → StandsIn pick m id
stands_in pick n [] id rise h = absurd (cc)
stands_in pick n (e ∷ es) id rise h =
    by_test (pick e == id)
    (λ q. let own = eq-eqb e.0 e.0 refl in (e.0, (e.1, e.2), rw own refl, eqb-true (pick e) id q))
    (λ q.
    let later : stands pick es id ≡ true = rw q at h in
    let rest = stands_in pick (e.0 + 1) es id rise.1 later in
    (rest.0, rest.1, behind_first e es rest.0 rest.1 rise.1 rest.2, rest.3))

-- and back
in_stands : (pick : ℕ × ℕ × ℕ → ℕ) (m : Pairs) (p : ℕ) (x : ℕ × ℕ) → pair_of m p ≡ Some x → stands pick m (pick (p, x.0, x.1)) ≡ true
in_stands pick [] p x at = absurd (cc)
in_stands pick (e ∷ es) p x at =
    by_test (e.0 == p)
    (λ u.
    let is : ◌≡◌ {A = Option (ℕ × ℕ)} (Some (e.1, e.2)) (Some x) = rw u at at in
    let pair : ◌≡◌ {A = ℕ × ℕ} (e.1, e.2) x = cc in
    let same : pick e ≡ pick (p, x.0, x.1) = ap (λ (i : ℕ). pick (i, e.1, e.2)) (eqb-true e.0 p u) ∙ ap (λ (k : ℕ × ℕ). pick (p, k.0, k.1)) pair in
    let here : (pick e == pick (p, x.0, x.1)) ≡ true = let own = eq-eqb (pick e) (pick e) refl in subst (λ (i : ℕ). (pick e == i) ≡ true) same own in
    rw here refl)
    (λ u.
    let later : pair_of es p ≡ Some x = rw u at at in
    let rest = in_stands pick es p x later in
    by_test (pick e == pick (p, x.0, x.1)) (λ q. rw q refl) (λ q. rw q rest))

-- in the words of the laws
first_stands : (m : Pairs) (id : ℕ) → HasFirst m id → stands first_of m id ≡ true
first_stands m id h = in_stands first_of m h.0 (id, h.1) h.2

-- likewise of T
second_stands : (m : Pairs) (id : ℕ) → HasSecond m id → stands second_of m id ≡ true
second_stands m id h = in_stands second_of m h.0 (h.1, id) h.2

-- a row of S in no pair
no_first : (m : Pairs) (id : ℕ) → RiseFrom 0 m → (HasFirst m id → ⊥) → stands first_of m id ≡ false
no_first m id rise never = by_test (stands first_of m id)
    (λ e.
    let is = stands_in first_of 0 m id rise e in
    absurd (never (is.0, is.1.1, is.2 ∙ ap (λ (i : ℕ). Some (i, is.1.1)) is.3)))
    (λ e. e)

-- and one of T
no_second : (m : Pairs) (id : ℕ) → RiseFrom 0 m → (HasSecond m id → ⊥) → stands second_of m id ≡ false
no_second m id rise never = by_test (stands second_of m id)
    (λ e.
    let is = stands_in second_of 0 m id rise e in
    absurd (never (is.0, is.1.0, is.2 ∙ ap (λ (i : ℕ). Some (is.1.0, i)) is.3)))
    (λ e. e)

-- which rows stay
out_stays : (a b : Bool) → a ≡ false → (not a || b) ≡ true
out_stays a b e = rw e refl

-- one in a new pair does
in_stays : (a b : Bool) → b ≡ true → (not a || b) ≡ true
in_stays true b e = e
in_stays false b e = refl

-- one in an old pair alone does not
last_goes : (a b : Bool) → a ≡ true → b ≡ false → (not a || b) ≡ false
last_goes a b e f = rw (e, f) refl

-- the least row of a value stays the least where one more row stands behind
least_stays : (rows : Rows) (z : ℕ × List Value) (y : List Value) (i : ℕ) → least rows y ≡ Some i → least (rows ++ z ∷ []) y ≡ Some i
least_stays [] z y i at = absurd (cc)
least_stays (x ∷ xs) z y i at =
    by_test (same_row x.1 y)
    (λ e. let here : Some x.0 ≡ Some i = rw e at at in rw e here)
    (λ e. let later : least xs y ≡ Some i = rw e at at in rw e (least_stays xs z y i later))

-- a row behind is the least of its value where there was none
least_behind : (rows : Rows) (n : ℕ) (y : List Value) → least rows y ≡ None → least (rows ++ (n, y) ∷ []) y ≡ Some n
least_behind [] n y none = let own = row_same y in rw own refl
least_behind (x ∷ xs) n y none =
    by_test (same_row x.1 y)
    (λ e. let bad : ◌≡◌ {A = Option ℕ} (Some x.0) None = rw e at none in absurd (cc))
    (λ e. let later : least xs y ≡ None = rw e at none in rw e (least_behind xs n y later))

-- the row that was found or drawn is the least of its value
got_least : (choice : Option ℕ) (rows : Rows) (y : List Value) (n : ℕ) → choice ≡ least rows y → least (got choice rows y n).rows y ≡ Some (got choice rows y n).id
got_least (Some id) rows y n e = sym e
got_least None rows y n e = least_behind rows n y (sym e)

-- and every other least row stays so
got_stays : (choice : Option ℕ) (rows : Rows) (x y : List Value) (n i : ℕ) → least rows y ≡ Some i → least (got choice rows x n).rows y ≡ Some i
got_stays (Some id) rows x y n i at = at
got_stays None rows x y n i at = least_stays rows (n, x) y i at

module _ (j : Joining) (r : Rows) (m : Pairs) where
  -- the row is new, or has another T part than before
  abbrev IsNew : ℕ → List Value → Type 0
  IsNew p x = (was : List Value) → row_of r p ≡ Some was → part j.second was ≢ part j.second x

  -- it has no row of its own then
  own_none : (c : Cell) (id : Option ℕ) (x : List Value) → ((was : List Value) → c ≡ Some was → part j.second was ≢ part j.second x) → own j.second c id x ≡ None
  own_none None id x new = refl
  own_none (Some was) id x new = let apart = told_apart (part j.second was) (part j.second x) (new was refl) in rw apart refl

  -- and isn't as it was
  not_as_before : (c : Cell) (pair : Option (ℕ × ℕ)) (x : List Value) → ((was : List Value) → c ≡ Some was → part j.second was ≢ part j.second x) → unchanged c pair x ≡ None
  not_as_before None pair x new = refl
  not_as_before (Some was) pair x new = let apart = told_apart was x (λ same. new was refl (ap (part j.second) same)) in rw apart refl

  -- so its row of T is the least of its value, found or drawn
  choice_is : (d : Assigning) (p : ℕ) (x : List Value) → IsNew p x
      → or_id (own j.second (row_of r p) (option_map (λ pair. pair.1) (pair_of m p)) x) (least d.second (part j.second x)) ≡ least d.second (part j.second x)
  choice_is d p x new = ap (λ (o : Option ℕ). or_id o (least d.second (part j.second x))) (own_none (row_of r p) (option_map (λ pair. pair.1) (pair_of m p)) x new)

  -- so its pair is made anew
  placed_is : (d : Assigning) (p : ℕ) (x : List Value) → IsNew p x → place_row j r m d (p, x) ≡ place_changed j r m d (p, x)
  placed_is d p x new = ap (place_by j r m d (p, x)) (not_as_before (row_of r p) (pair_of m p) x new)

  -- afterwards its row of T is the least of its value
  new_least : (d : Assigning) (p : ℕ) (x : List Value) → IsNew p x → least (place_row j r m d (p, x)).after.second (part j.second x) ≡ Some (place_row j r m d (p, x)).second
  new_least d p x new =
      subst (λ (q : Placed). least q.after.second (part j.second x) ≡ Some q.second) (sym (placed_is d p x new))
      (got_least (or_id (own j.second (row_of r p) (option_map (λ pair. pair.1) (pair_of m p)) x) (least d.second (part j.second x))) d.second (part j.second x) (first_got j r m d (p, x)).next (choice_is d p x new))

  -- a least row that was there is taken
  new_found : (d : Assigning) (p : ℕ) (x : List Value) (i : ℕ) → IsNew p x → least d.second (part j.second x) ≡ Some i → (place_row j r m d (p, x)).second ≡ i
  new_found d p x i new at =
      ap (λ (q : Placed). q.second) (placed_is d p x new)
      ∙ ap (λ (o : Option ℕ). (got o d.second (part j.second x) (first_got j r m d (p, x)).next).id) (choice_is d p x new ∙ at)

  -- a least row stays so while rows get their pairs
  by_stays : (d : Assigning) (z : ℕ × List Value) (o : Option (ℕ × ℕ)) (y : List Value) (i : ℕ) → least d.second y ≡ Some i → least (place_by j r m d z o).after.second y ≡ Some i
  by_stays d z (Some pair) y i at = at
  by_stays d z None y i at =
      got_stays (or_id (own j.second (row_of r z.0) (option_map (λ pair. pair.1) (pair_of m z.0)) z.1) (least d.second (part j.second z.1))) d.second (part j.second z.1) y (first_got j r m d z).next i at

  -- the first of some rows
  head_is : (z : ℕ × List Value) (p : ℕ) (x : List Value) → (z.0 == p) ≡ true → Some z.1 ≡ Some x → z ≡ (p, x)
  head_is z p x e at =
      let values : z.1 ≡ x = cc in
      ap (λ (i : ℕ). (i, z.1)) (eqb-true z.0 p e) ∙ ap (λ (v : List Value). (p, v)) values

  -- its row of T
  second_is : (d : Assigning) (z : ℕ × List Value) (a b : ℕ) → ◌≡◌ {A = Option (ℕ × ℕ)} (Some ((place_row j r m d z).first, (place_row j r m d z).second)) (Some (a, b)) → (place_row j r m d z).second ≡ b
  second_is d z a b at = (both_of (z.0, (place_row j r m d z).first, (place_row j r m d z).second) a b at).1

  -- a later row with the value gets the least one
  later_shares : (d : Assigning) (xs : Rows) (q : ℕ) (x : List Value) (i a b : ℕ) → IsNew q x → least d.second (part j.second x) ≡ Some i → row_of xs q ≡ Some x → pair_of (assigned j r m d xs) q ≡ Some (a, b) → b ≡ i
  later_shares d [] q x i a b new at found pair = absurd (cc)
  later_shares d (z ∷ zs) q x i a b new at found pair =
      by_test (z.0 == q)
      (λ e.
      let here : Some z.1 ≡ Some x = rw e at found in
      let is : ◌≡◌ {A = Option (ℕ × ℕ)} (Some ((place_row j r m d z).first, (place_row j r m d z).second)) (Some (a, b)) = rw e at pair in
      sym (second_is d z a b is) ∙ ap (λ (u : ℕ × List Value). (place_row j r m d u).second) (head_is z q x e here) ∙ new_found d q x i new at)
      (λ e.
      let later : row_of zs q ≡ Some x = rw e at found in
      let rest : pair_of (assigned j r m (place_row j r m d z).after zs) q ≡ Some (a, b) = rw e at pair in
      later_shares (place_row j r m d z).after zs q x i a b new (by_stays d z (unchanged (row_of r z.0) (pair_of m z.0) z.1) (part j.second x) i at) later rest)

  -- one row, and then another
  one_then : (d : Assigning) (z : ℕ × List Value) (zs : Rows) (p q : ℕ) (x y : List Value) (a b c f : ℕ) → IsNew p x → IsNew q y → part j.second x ≡ part j.second y
      → (z.0 == p) ≡ true → Some z.1 ≡ Some x → ◌≡◌ {A = Option (ℕ × ℕ)} (Some ((place_row j r m d z).first, (place_row j r m d z).second)) (Some (a, b))
      → row_of zs q ≡ Some y → pair_of (assigned j r m (place_row j r m d z).after zs) q ≡ Some (c, f) → f ≡ b
  one_then d z zs p q x y a b c f one other same e here is later rest =
      let head = head_is z p x e here in
      let own : least (place_row j r m d z).after.second (part j.second x) ≡ Some (place_row j r m d z).second =
      subst (λ (u : ℕ × List Value). least (place_row j r m d u).after.second (part j.second x) ≡ Some (place_row j r m d u).second) (sym head) (new_least d p x one) in
      let at : least (place_row j r m d z).after.second (part j.second y) ≡ Some b =
      ap (λ (v : List Value). least (place_row j r m d z).after.second v) (sym same) ∙ own ∙ ap (λ (i : ℕ). Some i) (second_is d z a b is) in
      later_shares (place_row j r m d z).after zs q y b c f other at later rest

  -- so rows with one value share the row of it
  shares : (d : Assigning) (xs : Rows) (p q : ℕ) (x y : List Value) (a b c f : ℕ) → IsNew p x → IsNew q y → part j.second x ≡ part j.second y
      → row_of xs p ≡ Some x → row_of xs q ≡ Some y → pair_of (assigned j r m d xs) p ≡ Some (a, b) → pair_of (assigned j r m d xs) q ≡ Some (c, f) → b ≡ f
  shares d [] p q x y a b c f one other same at at2 pair pair2 = absurd (cc)
  shares d (z ∷ zs) p q x y a b c f one other same at at2 pair pair2 =
      by_test (z.0 == p)
      (λ e.
      let here : Some z.1 ≡ Some x = rw e at at in
      let is : ◌≡◌ {A = Option (ℕ × ℕ)} (Some ((place_row j r m d z).first, (place_row j r m d z).second)) (Some (a, b)) = rw e at pair in
      by_test (z.0 == q)
      (λ u.
      let is2 : ◌≡◌ {A = Option (ℕ × ℕ)} (Some ((place_row j r m d z).first, (place_row j r m d z).second)) (Some (c, f)) = rw u at pair2 in
      sym (second_is d z a b is) ∙ second_is d z c f is2)
      (λ u.
      let later : row_of zs q ≡ Some y = rw u at at2 in
      let rest : pair_of (assigned j r m (place_row j r m d z).after zs) q ≡ Some (c, f) = rw u at pair2 in
      sym (one_then d z zs p q x y a b c f one other same e here is later rest)))
      (λ e.
      let later : row_of zs p ≡ Some x = rw e at at in
      let rest : pair_of (assigned j r m (place_row j r m d z).after zs) p ≡ Some (a, b) = rw e at pair in
      by_test (z.0 == q)
      (λ u.
      let here : Some z.1 ≡ Some y = rw u at at2 in
      let is : ◌≡◌ {A = Option (ℕ × ℕ)} (Some ((place_row j r m d z).first, (place_row j r m d z).second)) (Some (c, f)) = rw u at pair2 in
      one_then d z zs q p y x c f a b other one (sym same) u here is later rest)
      (λ u.
      let later2 : row_of zs q ≡ Some y = rw u at at2 in
      let rest2 : pair_of (assigned j r m (place_row j r m d z).after zs) q ≡ Some (c, f) = rw u at pair2 in
      shares (place_row j r m d z).after zs p q x y a b c f one other same later later2 rest rest2))

  -- a row that is as it was keeps its pair
  as_before : (d : Assigning) (xs : Rows) (p : ℕ) (x : List Value) (pair : ℕ × ℕ) → row_of xs p ≡ Some x → row_of r p ≡ Some x → pair_of m p ≡ Some pair → pair_of (assigned j r m d xs) p ≡ Some pair
  as_before d [] p x pair at was has_it = absurd (cc)
  as_before d (z ∷ zs) p x pair at was has_it =
      by_test (z.0 == p)
      (λ e.
      let here : Some z.1 ≡ Some x = rw e at at in
      let head = head_is z p x e here in
      let own = row_same x in
      let kept : unchanged (row_of r p) (pair_of m p) x ≡ Some pair = rw (was, has_it, own) refl in
      let placed : place_row j r m d z ≡ record { first = pair.0; second = pair.1; after = d } =
      ap (place_row j r m d) head ∙ ap (λ (o : Option (ℕ × ℕ)). place_by j r m d (p, x) o) kept in
      let is : ◌≡◌ {A = Option (ℕ × ℕ)} (Some ((place_row j r m d z).first, (place_row j r m d z).second)) (Some pair) = ap (λ (q : Placed). Some (q.first, q.second)) placed in
      rw e is)
      (λ e.
      let later : row_of zs p ≡ Some x = rw e at at in
      rw e (as_before (place_row j r m d z).after zs p x pair later was has_it))

  -- an identifier that the rows lack gets none
  none_given : (d : Assigning) (xs : Rows) (p : ℕ) → row_of xs p ≡ None → pair_of (assigned j r m d xs) p ≡ None
  none_given d [] p none = refl
  none_given d (z ∷ zs) p none =
      by_test (z.0 == p)
      (λ e. let bad : Some z.1 ≡ None = rw e at none in absurd (cc))
      (λ e. let later : row_of zs p ≡ None = rw e at none in rw e (none_given (place_row j r m d z).after zs p later))

module _ (j : Joining) (w : JoinedWritten j) where
  -- old S
  abbrev s : Rows
  s = first_before w

  -- old T
  abbrev t : Rows
  t = second_before w

  -- the old joined table
  abbrev r : Rows
  r = joined_before w

  -- the old pairs
  abbrev m : Pairs
  m = given_before w

  -- the new joined table
  abbrev near : Rows
  near = joined_after w

  -- the operator is built for the headings
  fits : JoinFits j w.hs w.ht
  fits = w.may.sound.pair.fits

  -- its columns are divided
  parts : ArePartition j.first j.second
  parts = fits.places

  -- both sides belong together
  is : IsJoined j s t r m
  is = w.may.sound.pair.related

  -- both sources
  both : TwoTables (length j.first) (length j.second) w.old.source
  both = two_tables (length j.first) (length j.second) w.hs w.old.source fits.source w.may.sound.pair.target_of

  -- what is assigned at the start
  abbrev start : Assigning
  start = beginning s t r m near w.n

  -- and at the end
  abbrev end : Assigning
  end = ending j r m start near

  -- the pairs that are given
  abbrev pairs : Pairs
  pairs = assigned j r m start near

  -- S is sound
  s_sound : RowsSound w.n s
  s_sound = table_sound w.n 0 w.old.source w.may.sound.target

  -- and T
  t_sound : RowsSound w.n t
  t_sound = table_sound w.n 1 w.old.source w.may.sound.target

  -- at the start all is in order
  ready : Ready j parts s t r m is both.first_wide both.second_wide w.n start
  ready = start_ready j parts s t r m is both.first_wide both.second_wide w.n near both.first_rise both.second_rise (below_sound w.n s s_sound) (below_sound w.n t t_sound) w.may.sound.memory

  -- and grows
  grown : Grown j parts s t r m is both.first_wide both.second_wide w.n start end
  grown = end_grown j parts s t r m is both.first_wide both.second_wide w.n start near ready

  -- the new memory rises
  rises : RiseFrom 0 (given_after w)
  rises = (backward_kept j w.hs w.ht w.near (exchanged w.old) w.n w.may).related.rises

  -- what stays, by the tests of the operator
  first_kept : (id : ℕ) (row : List Value) → (not (stands first_of m id) || stands first_of pairs id) ≡ true → row_of s id ≡ Some row → row_of (first_after w) id ≡ Some row
  first_kept id row passes at = filter_found (λ i. not (stands first_of m i) || stands first_of pairs i) end.first id passes ∙ grown.first_keeps id row at

  -- likewise of T
  second_kept : (id : ℕ) (row : List Value) → (not (stands second_of m id) || stands second_of pairs id) ≡ true → row_of t id ≡ Some row → row_of (second_after w) id ≡ Some row
  second_kept id row passes at = filter_found (λ i. not (stands second_of m i) || stands second_of pairs i) end.second id passes ∙ grown.second_keeps id row at

  pub keeps : (p : ℕ) → row_of near p ≡ row_of r p → pair_of (given_after w) p ≡ pair_of m p
  keeps p same =
      let found : row_of r p ≡ row_for j s t (pair_of m p) = ap (λ (rows : Rows). row_of rows p) is.rows ∙ joined_found j s t m p is.there in
      by_option (row_of r p)
      (λ none.
      none_given j r m start near p (same ∙ none)
      ∙ sym (by_option (pair_of m p) (λ e. e)
      (λ pair e.
      let some : IsSome (row_of r p) = subst (λ (rows : Rows). IsSome (row_of rows p)) (sym is.rows) (joined_has j s t m p is.there (rw e refl)) in
      let bad : false ≡ true = rw none at some in
      absurd (cc))))
      (λ x at.
      by_option (pair_of m p)
      (λ e. let bad : Some x ≡ None = sym at ∙ found ∙ ap (row_for j s t) e in absurd (cc))
      (λ pair e. as_before j r m start near p x pair (same ∙ at) at e ∙ sym e))

  pub no_pair_stays : (id : ℕ) (row : List Value)
      → ((HasFirst m id → ⊥) → row_of s id ≡ Some row → row_of (first_after w) id ≡ Some row)
      × ((HasSecond m id → ⊥) → row_of t id ≡ Some row → row_of (second_after w) id ≡ Some row)
  no_pair_stays id row = (
    λ never at. first_kept id row (out_stays (stands first_of m id) (stands first_of pairs id) (no_first m id is.rises never)) at,
    λ never at. second_kept id row (out_stays (stands second_of m id) (stands second_of pairs id) (no_second m id is.rises never)) at,
  )

  pub in_pair_stays : (id : ℕ) (row : List Value)
      → (HasFirst (given_after w) id → row_of s id ≡ Some row → row_of (first_after w) id ≡ Some row)
      × (HasSecond (given_after w) id → row_of t id ≡ Some row → row_of (second_after w) id ≡ Some row)
  in_pair_stays id row = (
    λ has_it at. first_kept id row (in_stays (stands first_of m id) (stands first_of pairs id) (first_stands pairs id has_it)) at,
    λ has_it at. second_kept id row (in_stays (stands second_of m id) (stands second_of pairs id) (second_stands pairs id has_it)) at,
  )

  pub last_pair_goes : (id : ℕ)
      → (HasFirst m id → (HasFirst (given_after w) id → ⊥) → row_of (first_after w) id ≡ None)
      × (HasSecond m id → (HasSecond (given_after w) id → ⊥) → row_of (second_after w) id ≡ None)
  last_pair_goes id = (
    λ has_it never. filter_lost (λ i. not (stands first_of m i) || stands first_of pairs i) end.first id (last_goes (stands first_of m id) (stands first_of pairs id) (first_stands m id has_it) (no_first pairs id rises never)),
    λ has_it never. filter_lost (λ i. not (stands second_of m i) || stands second_of pairs i) end.second id (last_goes (stands second_of m id) (stands second_of pairs id) (second_stands m id has_it) (no_second pairs id rises never)),
  )

-- the laws

pub row_keeps : UnchangedRowKeepsPair
row_keeps j w p same = keeps j w p same

pub in_none_stays : RowInNoPairStays
in_none_stays j w id row = no_pair_stays j w id row

pub in_a_pair_stays : RowInAPairIsAsItWas
in_a_pair_stays j w id row = in_pair_stays j w id row

pub goes_with_last : RowGoesWithItsLastPair
goes_with_last j w id = last_pair_goes j w id

pub parts_share_a_row : EqualPartsShareARow
parts_share_a_row j w p q a b c d x y one other same pair pair2 =
    shares j (joined_before w) (given_before w) (start j w) (joined_after w) p q x y a b c d one.1 other.1 same one.0 other.0 pair pair2
