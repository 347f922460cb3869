-- Values of a row by their places, and rows put together from values at places.
use Rattle.std.specs.Prelude.{◌≡◌, ℕ, zero, suc, ◌+◌, ◌<◌, ◌==◌, List, [], ◌∷◌, length, Bool, true, false, ◌||◌, if◌then◌else◌, Option, Some, None, slice_get, unwrap_or, map, replicate}
use Rattle.par_base.specs.declared.value.Value.{Value}
use Rattle.par_base.specs.declared.value.Value.TheVariants.{Null}
use Rattle.row_parts.specs.RowCells.{value_or}
use Rattle.row_parts.specs.RowEdits.{value_at}

-- the values at these places
abbrev pub pick : List ℕ → List Value → List Value
pick places row = map (λ place. value_at place row) places

-- the value of a place, where these values stand at these places
abbrev pub value_for : List ℕ → List Value → ℕ → Option Value
value_for [] values place = None
value_for (p ∷ ps) [] place = None
value_for (p ∷ ps) (v ∷ vs) place = if p == place then Some v else value_for ps vs place

-- so many values: what f gives from a place on
abbrev pub filled : ℕ → ℕ → (ℕ → Value) → List Value
filled zero from f = []
filled (suc count) from f = f from ∷ filled count (from + 1) f

-- so many nulls
abbrev pub nulls : ℕ → List Value
nulls count = replicate count Null

-- the value at a place of the row whose values at these places are x and y
abbrev pub value_of_both : List ℕ → List ℕ → List Value → List Value → ℕ → Value
value_of_both first second x y place = value_or (value_or Null (value_for second y place)) (value_for first x place)

-- the row whose values at these places are x and y
abbrev pub row_of_both : List ℕ → List ℕ → List Value → List Value → List Value
row_of_both first second x y = filled (length first + length second) 0 (value_of_both first second x y)

-- a list has the place
abbrev pub has_place : List ℕ → ℕ → Bool
has_place [] place = false
has_place (p ∷ ps) place = if p == place then true else has_place ps place

-- no place stands twice
abbrev pub AreOnce : List ℕ → Type 0
AreOnce [] = Unit {0}
AreOnce (p ∷ ps) = (has_place ps p ≡ false) × AreOnce ps

-- each place of a row stands in exactly one of the two lists, once
pub record ArePartition (first second : List ℕ) : Type 0 where
  pub first_once : AreOnce first
  pub second_once : AreOnce second
  pub apart : (place : ℕ) → has_place first place ≡ true → has_place second place ≡ false
  pub first_within : (place : ℕ) → has_place first place ≡ true → place < length first + length second
  pub second_within : (place : ℕ) → has_place second place ≡ true → place < length first + length second
  pub all : (place : ℕ) → place < length first + length second → (has_place first place || has_place second place) ≡ true

-- the names at these places
abbrev pub names_at : List ℕ → List (List ℕ) → List (List ℕ)
names_at [] names = []
names_at (p ∷ ps) names = unwrap_or (slice_get names p) [] ∷ names_at ps names
