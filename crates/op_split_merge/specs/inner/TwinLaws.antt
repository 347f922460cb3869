-- What the definitions on the rows of one identifier keep.
use Rattle.std.specs.Prelude.{◌≡◌, List, Bool, true, false, not, ◌&&◌, ◌||◌, if◌then◌else◌, Some, None, refl}
use Rattle.std.proofs.Common.{sym, arith}
use Rattle.par_base.specs.declared.value.Value.{Value}
use Rattle.par_base.specs.inner.SameLaws.{row_equal}
use Rattle.row_parts.specs.RowCells.{Cell, or_else, kept_if}
use Rattle.op_split_merge.specs.Twins.{Test, first_to, second_to, AreTwinsOf, rest_of, source_to}
use Rattle.op_split_merge.specs.Auxiliary.{lost, against_first, against_second, separated, shown_by, second_by}

-- a row that goes to neither target meets neither condition
goes_nowhere : (want_first want_second meets_first meets_second : Bool)
    → (want_first || (meets_first && not want_second)) ≡ false
    → (want_second || (meets_second && not want_first)) ≡ false
    → (meets_first ≡ false) × (meets_second ≡ false)
goes_nowhere a b c d h k = grind arith

-- what a choice gives is one of the two
pub kept_either : (P : Cell → Type 0) (b : Bool) (c : Cell) → P None → P c → P (kept_if b c)
kept_either P true c none h = h
kept_either P false c none h = none

chosen_either : (P : Cell → Type 0) (b : Bool) (c d : Cell) → P c → P d → P (if b then c else d)
chosen_either P true c d h k = h
chosen_either P false c d h k = k

or_either : (P : Cell → Type 0) (c d : Cell) → P c → P d → P (or_else c d)
or_either P (Some row) d h k = h
or_either P None d h k = k

pub rest_either : (P : Cell → Type 0) (c r s : Cell) → P None → P c → P (rest_of c r s)
rest_either P c (Some r) s none h = none
rest_either P c None (Some s) none h = none
rest_either P c None None none h = h

pub source_either : (P : Cell → Type 0) (r s c : Cell) → P r → P s → P c → P (source_to r s c)
source_either P r s c h k l = or_either P r (or_else s c) h (or_either P s c k l)

module _ (p q : Test) where
  -- the new row by where it goes
  placed : (row : List Value) (s : Cell) (in_first apart in_second : Bool)
      → (in_first ≡ false → in_second ≡ false → (p row ≡ false) × (q row ≡ false))
      → (in_first ≡ false → apart ≡ false)
      → AreTwinsOf p q (Some row) (kept_if in_first (Some row)) (if apart then s else kept_if in_second (Some row))
  placed row s true apart in_second h k = refl
  placed row s false true in_second h k = let e = k refl in absurd (cc)
  placed row s false false true h k = refl
  placed row s false false false h k = h refl refl

  pub to_related : (c r s : Cell) → AreTwinsOf p q c (first_to p q c r s) (second_to p q c r s)
  to_related None r s = tt
  to_related (Some row) r s = placed row s _ _ _ (λ h k. goes_nowhere _ _ _ _ h k) (λ h. grind (arith, h))

  -- what the mappings give was there
  pub first_either : (P : Cell → Type 0) (c r s : Cell) → P None → P c → P (first_to p q c r s)
  first_either P None r s none h = none
  first_either P (Some row) r s none h = kept_either P _ (Some row) none h

  pub second_either : (P : Cell → Type 0) (c r s : Cell) → P None → P c → P s → P (second_to p q c r s)
  second_either P None r s none h k = none
  second_either P (Some row) r s none h k = chosen_either P _ s _ k (kept_either P _ (Some row) none h)

  -- the old source gives the old targets
  pub first_still : (c r s : Cell) → AreTwinsOf p q c r s → first_to p q c r s ≡ r
  first_still None (Some r) s h = absurd (cc)
  first_still None None (Some s) h = absurd (cc)
  first_still None None None h = refl
  first_still (Some row) (Some r) (Some s) h = grind (arith, row_equal)
  first_still (Some row) (Some r) None h = grind arith
  first_still (Some row) None (Some s) h = grind arith
  first_still (Some row) None None h = rw (h.0) refl

  pub second_still : (c r s : Cell) → AreTwinsOf p q c r s → second_to p q c r s ≡ s
  second_still None (Some r) s h = absurd (cc)
  second_still None None (Some s) h = absurd (cc)
  second_still None None None h = refl
  second_still (Some row) (Some r) (Some s) h = grind (arith, row_equal)
  second_still (Some row) (Some r) None h = grind arith
  second_still (Some row) None (Some s) h = grind arith
  second_still (Some row) None None h = rw (h.0, h.1) refl

  -- the source and the auxiliary rows give the targets
  pub first_recovered : (c r s : Cell) → AreTwinsOf p q c r s → shown_by p c (lost p c r) (against_first p r) ≡ r
  first_recovered None (Some r) s h = absurd (cc)
  first_recovered None None (Some s) h = absurd (cc)
  first_recovered None None None h = refl
  first_recovered (Some row) (Some r) s h = grind arith
  first_recovered (Some row) None (Some s) h = grind arith
  first_recovered (Some row) None None h = rw (h.0) refl

  pub second_recovered : (c r s : Cell) → AreTwinsOf p q c r s → second_by q c (lost q c s) (against_second q r s) (separated r s) ≡ s
  second_recovered None (Some r) s h = absurd (cc)
  second_recovered None None (Some s) h = absurd (cc)
  second_recovered None None None h = refl
  second_recovered (Some row) (Some r) (Some s) h = grind (arith, row_equal)
  second_recovered (Some row) (Some r) None h = grind arith
  second_recovered (Some row) None (Some s) h = grind arith
  second_recovered (Some row) None None h = rw (h.1) refl

  -- and the other way
  pub from_related : (near_first near_second c r s : Cell) → AreTwinsOf p q c r s → AreTwinsOf p q (source_to near_first near_second (rest_of c r s)) near_first near_second
  from_related (Some x) near_second c r s h = refl
  from_related None (Some x) c r s h = refl
  from_related None None c (Some r) s h = tt
  from_related None None c None (Some s) h = tt
  from_related None None None None None h = tt
  from_related None None (Some row) None None h = h

  pub from_still : (c r s : Cell) → AreTwinsOf p q c r s → source_to r s (rest_of c r s) ≡ c
  from_still c (Some r) s h = sym h
  from_still c None (Some s) h = sym h
  from_still c None None h = refl

-- nothing goes to a second target whose condition holds of no row
pub none_second : (p : Test) (c r : Cell) → second_to p (λ row. false) c r None ≡ None
none_second p None r = refl
none_second p (Some row) None = refl
none_second p (Some row) (Some r) = refl
