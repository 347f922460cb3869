-- One identifier of SPLIT: its rows in the two targets, which are twins, and which target takes a new row of the source.
use Rattle.std.specs.Prelude.{◌≡◌, List, [], Bool, false, not, ◌&&◌, ◌||◌, if◌then◌else◌, Some, None}
use Rattle.par_base.specs.declared.value.Value.{Value}
use Rattle.par_base.specs.SameRows.{same_row}
use Rattle.row_parts.specs.RowCells.{Cell, is_there, or_else, kept_if}

-- whether a row meets a condition
abbrev pub Test : Type 0
Test = List Value → Bool

-- there is a row, and it meets the condition
abbrev pub meets : Test → Cell → Bool
meets test None = false
meets test (Some row) = test row

-- there is a row, and it fails the condition
abbrev pub fails : Test → Cell → Bool
fails test None = false
fails test (Some row) = not (test row)

-- both targets have the identifier, with rows that differ
abbrev pub are_separated : Cell → Cell → Bool
are_separated (Some r) (Some s) = not (same_row r s)
are_separated (Some r) None = false
are_separated None s = false

-- the twin here is lost: this target lacks the identifier, and the other's old row meets this target's condition
abbrev pub is_lost : Test → Cell → Cell → Bool
is_lost test here there = not (is_there here) && meets test there

-- a target wants the new row: its old row fails its condition, or the new row meets it and the twin here isn't lost
abbrev pub wants : Test → Cell → Cell → Bool → Bool
wants test here there new_meets = fails test here || (new_meets && not (is_lost test here there))

-- the identifier alone where so, without values
abbrev pub noted_if : Bool → Cell
noted_if test = kept_if test (Some [])

module _ (first second : Test) where
  abbrev pub wants_first : Cell → Cell → List Value → Bool
  wants_first r s row = wants first r s (first row)

  abbrev pub wants_second : Cell → Cell → List Value → Bool
  wants_second r s row = wants second s r (second row)

  -- the new row goes to the first target: that wants it, or the row meets its condition and the second doesn't want it
  abbrev pub goes_first : Cell → Cell → List Value → Bool
  goes_first r s row = wants_first r s row || (first row && not (wants_second r s row))

  -- separated twins stay so: the first gets the new row, and the second keeps its own
  abbrev pub stays_separated : Cell → Cell → List Value → Bool
  stays_separated r s row = are_separated r s && goes_first r s row

  -- the new row goes to the second target: that wants it, or the row meets its condition and the first doesn't want it
  abbrev pub goes_second : Cell → Cell → List Value → Bool
  goes_second r s row = wants_second r s row || (second row && not (wants_first r s row))

  -- the first target's row, from the source's new row and the targets' old rows
  abbrev pub first_to : Cell → Cell → Cell → Cell
  first_to None r s = None
  first_to (Some row) r s = kept_if (goes_first r s row) (Some row)

  -- the second target's row
  abbrev pub second_to : Cell → Cell → Cell → Cell
  second_to None r s = None
  second_to (Some row) r s = if stays_separated r s row then s else kept_if (goes_second r s row) (Some row)

  -- the source has the first target's row, else the second's; where neither has one, it has none or one that meets neither condition
  abbrev pub AreTwinsOf : Cell → Cell → Cell → Type 0
  AreTwinsOf c (Some r) s = c ≡ Some r
  AreTwinsOf c None (Some s) = c ≡ Some s
  AreTwinsOf None None None = Unit {0}
  AreTwinsOf (Some row) None None = (first row ≡ false) × (second row ≡ false)

-- the source's row where both targets lack the identifier
abbrev pub rest_of : Cell → Cell → Cell → Cell
rest_of c (Some r) s = None
rest_of c None (Some s) = None
rest_of c None None = c

-- the source's new row, from the targets' new rows, and the old row that was in neither target
abbrev pub source_to : Cell → Cell → Cell → Cell
source_to r s rest = or_else r (or_else s rest)
