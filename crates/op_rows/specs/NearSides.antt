-- An operator seen from one of its sides.
use Rattle.std.specs.Prelude.{◌≡◌, refl}
use Rattle.op_rows.specs.declared.near_side.NearSide.{NearSide}
use Rattle.op_rows.specs.declared.near_side.NearSide.TheVariants.{Source, Target}
use Rattle.op_rows.specs.RowMeaning.{RowMeaning, RowHalf, RowLaws, flip_row}

-- the far side
abbrev pub far_of : NearSide → NearSide
far_of Source = Target
far_of Target = Source

-- the operator whose source is the near side
abbrev pub seen_from : NearSide → RowMeaning → RowMeaning
seen_from Source r = r
seen_from Target r = flip_row r

-- the laws of the direction from the near side
pub half_from : (side : NearSide) (r : RowMeaning) → RowLaws r → RowHalf (seen_from side r)
half_from Source r laws = laws.0
half_from Target r laws = laws.1

-- seen from the far side, it is the flip seen from the near one
pub seen_far : (side : NearSide) (r : RowMeaning) → seen_from (far_of side) r ≡ seen_from side (flip_row r)
seen_far Source r = refl
seen_far Target r = refl

-- the far side has the targets
pub far_tables : (side : NearSide) (r : RowMeaning) → (seen_from (far_of side) r).sources ≡ (seen_from side r).targets
far_tables Source r = refl
far_tables Target r = refl
