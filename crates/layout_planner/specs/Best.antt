-- The version of least cost.
use Rattle.std.specs.Prelude.{ℕ, ◌<◌, ◌≤◌, nat_le, Bool, List, map, length, slice_index, Option}
use Rattle.std.specs.List.{find, list_all}
use Rattle.layout_planner.specs.declared.planning.VersionCost.{VersionCost}

abbrev pub numbers_of : List VersionCost → List ℕ
numbers_of costs = map (λ (c : VersionCost). c.cost) costs

-- the place of the first of least cost
pub record IsBest (costs : List ℕ) (at : ℕ) : Type 0 where
  pub within : at < length costs
  pub least : (k : ℕ) → k < length costs → slice_index costs at ≤ slice_index costs k
  pub first : (k : ℕ) → k < at → slice_index costs at < slice_index costs k

-- whether none of these costs less
abbrev pub is_least : List VersionCost → VersionCost → Bool
is_least costs c = list_all (λ (d : VersionCost). nat_le c.cost d.cost) costs

-- the first of least cost, with its version
abbrev pub best : List VersionCost → Option VersionCost
best costs = find (is_least costs) costs
