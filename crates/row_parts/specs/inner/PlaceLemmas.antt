-- Rows by their places: what was put in stands there, and a row is put together again from its parts.
use Rattle.std.proofs.Common.{◌≡◌, ℕ, zero, suc, ◌+◌, ◌<◌, ◌==◌, List, [], ◌∷◌, Bool, true, false, ◌||◌, length, Option, Some, None, refl, ap, sym, ◌∙◌, subst, arith}
use Rattle.std.proofs.lemmas.Bool.{eqb-true, eq-eqb}
use Rattle.par_base.specs.declared.value.Value.{Value}
use Rattle.par_base.specs.declared.value.Value.TheVariants.{Null}
use Rattle.op_law.specs.Sound.{ValueSound, ValuesSound}
use Rattle.row_parts.specs.RowCells.{value_or, by_test}
use Rattle.row_parts.specs.RowEdits.{value_at}
use Rattle.row_parts.specs.Places.{pick, value_for, filled, nulls, row_of_both, has_place, AreOnce, ArePartition, names_at}

-- as many values are picked as there are places
pub length-pick : (ps : List ℕ) (row : List Value) → length (pick ps row) ≡ length ps
length-pick [] row = refl
length-pick (p ∷ ps) row = ap suc (length-pick ps row)

-- a filled row has as many values as are filled in
pub length-filled : (count from : ℕ) (f : ℕ → Value) → length (filled count from f) ≡ count
length-filled zero from f = refl
length-filled (suc count) from f = ap suc (length-filled count (from + 1) f)

-- and so has a row of nulls
pub length-nulls : (count : ℕ) → length (nulls count) ≡ count
length-nulls zero = refl
length-nulls (suc count) = ap suc (length-nulls count)

-- the values that were filled in
at_filled : (count from place : ℕ) (f : ℕ → Value) → place < count → value_at place (filled count from f) ≡ f (from + place)
at_filled zero from place f h = absurd (omega arith)
at_filled (suc count) from zero f h = ap f (omega arith)
at_filled (suc count) from (suc place) f h = at_filled count (from + 1) place f (omega arith) ∙ ap f (omega arith)

-- a row is filled from itself
filled_back : (count from : ℕ) (f : ℕ → Value) (row : List Value) → length row ≡ count → ((place : ℕ) → place < count → f (from + place) ≡ value_at place row) → filled count from f ≡ row
filled_back zero from f [] e h = refl
filled_back zero from f (v ∷ vs) e h = absurd (omega arith)
filled_back (suc count) from f [] e h = absurd (omega arith)
filled_back (suc count) from f (v ∷ vs) e h =
    let head : f from ≡ v = ap f (omega arith) ∙ h 0 (omega arith) in
    let tail = filled_back count (from + 1) f vs (omega arith) (λ place under. ap f (omega arith) ∙ h (suc place) (omega arith)) in
    cc

-- no value stands at a place that is not listed
no_place : (ps : List ℕ) (vs : List Value) (place : ℕ) → has_place ps place ≡ false → value_for ps vs place ≡ None
no_place [] vs place h = refl
-- no value stands at a place that is not listed
no_place (p ∷ ps) [] place h = refl
-- no value stands at a place that is not listed
no_place (p ∷ ps) (v ∷ vs) place h =
    by_test (p == place)
    (λ e. let bad : true ≡ false = rw e at h in absurd (cc))
    (λ e. let h2 : has_place ps place ≡ false = rw e at h in rw e (no_place ps vs place h2))

-- a place at which a value stands is listed
a_place : (ps : List ℕ) (vs : List Value) (place : ℕ) (v : Value) → value_for ps vs place ≡ Some v → has_place ps place ≡ true
a_place ps vs place v e = by_test (has_place ps place) (λ h. h) (λ h. let none = no_place ps vs place h in absurd (cc))

-- the values at their places are these values
pick_back : (ps : List ℕ) (vs row : List Value) → length vs ≡ length ps → AreOnce ps → ((place : ℕ) (v : Value) → value_for ps vs place ≡ Some v → value_at place row ≡ v) → pick ps row ≡ vs
pick_back [] [] row e once h = refl
pick_back [] (v ∷ vs) row e once h = absurd (omega arith)
pick_back (p ∷ ps) [] row e once h = absurd (omega arith)
pick_back (p ∷ ps) (v ∷ vs) row e once h =
    let own = eq-eqb p p refl in
    let head : value_at p row ≡ v = h p v (rw own refl) in
    let tail = pick_back ps vs row (omega arith) once.1 (λ place u at.
    h place u (by_test (p == place)
    (λ same.
    let q = eqb-true p place same in
    let yes = a_place ps vs place u at in
    let yes2 : has_place ps p ≡ true = subst (λ (x : ℕ). has_place ps x ≡ true) (sym q) yes in
    let no = once.0 in
    absurd (cc))
    (λ other. rw other at))) in
    cc

-- picked values stand at their places
value_picked : (ps : List ℕ) (row : List Value) (place : ℕ) → has_place ps place ≡ true → value_for ps (pick ps row) place ≡ Some (value_at place row)
value_picked [] row place h = absurd (cc)
value_picked (p ∷ ps) row place h =
    by_test (p == place)
    (λ e. rw e (ap (λ (x : ℕ). Some (value_at x row)) (eqb-true p place e)))
    (λ e. let h2 : has_place ps place ≡ true = rw e at h in rw e (value_picked ps row place h2))

-- what may stand
pub value_at_sound : (n : ℕ) (row : List Value) (place : ℕ) → ValuesSound n row → ValueSound n (value_at place row)
value_at_sound n [] zero sound = tt
value_at_sound n [] (suc place) sound = tt
value_at_sound n (v ∷ vs) zero sound = sound.0
value_at_sound n (v ∷ vs) (suc place) sound = value_at_sound n vs place sound.1

-- picked values may stand
pub pick_sound : (n : ℕ) (ps : List ℕ) (row : List Value) → ValuesSound n row → ValuesSound n (pick ps row)
pick_sound n [] row sound = tt
pick_sound n (p ∷ ps) row sound = (value_at_sound n row p sound, pick_sound n ps row sound)

-- so may filled-in values that each may stand
pub filled_sound : (n count from : ℕ) (f : ℕ → Value) → ((place : ℕ) → ValueSound n (f place)) → ValuesSound n (filled count from f)
filled_sound n zero from f h = tt
filled_sound n (suc count) from f h = (h from, filled_sound n count (from + 1) f h)

-- and nulls
pub nulls_sound : (n count : ℕ) → ValuesSound n (nulls count)
nulls_sound n zero = tt
nulls_sound n (suc count) = (tt, nulls_sound n count)

-- and the value of a place, or what is given in its stead
pub value_for_sound : (n : ℕ) (ps : List ℕ) (vs : List Value) (place : ℕ) (out : Value) → ValuesSound n vs → ValueSound n out → ValueSound n (value_or out (value_for ps vs place))
value_for_sound n [] vs place out sound h = h
value_for_sound n (p ∷ ps) [] place out sound h = h
value_for_sound n (p ∷ ps) (v ∷ vs) place out sound h =
    by_test (p == place) (λ e. rw e sound.0) (λ e. rw e (value_for_sound n ps vs place out sound.1 h))

-- as many names are taken as there are places
pub length-names : (ps : List ℕ) (names : List (List ℕ)) → length (names_at ps names) ≡ length ps
length-names [] names = refl
length-names (p ∷ ps) names = ap suc (length-names ps names)

module _ (first second : List ℕ) (divided : ArePartition first second) where
  abbrev w : ℕ
  w = length first + length second

  abbrev value : List Value → List Value → ℕ → Value
  value x y at = value_or (value_or Null (value_for second y at)) (value_for first x at)

  pub first_join : (x y : List Value) → length x ≡ length first → length y ≡ length second → pick first (row_of_both first second x y) ≡ x
  first_join x y e f = pick_back first x (row_of_both first second x y) e divided.first_once
      (λ at v here.
      at_filled w 0 at (value x y) (divided.first_within at (a_place first x at v here)) ∙ ap (value x y) (omega arith)
      ∙ ap (λ (o : Option Value). value_or (value_or Null (value_for second y at)) o) here)

  pub second_join : (x y : List Value) → length x ≡ length first → length y ≡ length second → pick second (row_of_both first second x y) ≡ y
  second_join x y e f = pick_back second y (row_of_both first second x y) f divided.second_once
      (λ at v here.
      let there = a_place second y at v here in
      let not_first : has_place first at ≡ false = by_test (has_place first at) (λ yes. let no = divided.apart at yes in absurd (cc)) (λ no. no) in
      at_filled w 0 at (value x y) (divided.second_within at there) ∙ ap (value x y) (omega arith)
      ∙ ap (λ (o : Option Value). value_or (value_or Null (value_for second y at)) o) (no_place first x at not_first)
      ∙ ap (λ (o : Option Value). value_or Null o) here)

  or_second : (u v : Bool) → (u || v) ≡ true → u ≡ false → v ≡ true
  or_second u v h e = grind arith

  pub join_parts : (v : List Value) → length v ≡ w → row_of_both first second (pick first v) (pick second v) ≡ v
  join_parts v e = filled_back w 0 (value (pick first v) (pick second v)) v e
      (λ at under.
      ap (value (pick first v) (pick second v)) (omega arith)
      ∙ by_test (has_place first at)
      (λ yes. ap (λ (o : Option Value). value_or (value_or Null (value_for second (pick second v) at)) o) (value_picked first v at yes))
      (λ no.
      ap (λ (o : Option Value). value_or (value_or Null (value_for second (pick second v) at)) o) (no_place first (pick first v) at no)
      ∙ ap (λ (o : Option Value). value_or Null o) (value_picked second v at (or_second (has_place first at) (has_place second at) (divided.all at under) no))))
