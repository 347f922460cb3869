-- What an identifier of a footprint brings with it.
use Rattle.std.specs.Prelude.{◌≡◌, ℕ, Bool, true, false, List, Option, Some}
use Rattle.par_base.specs.declared.value.Value.{Value}
use Rattle.row_store.specs.Rows.{Rows, row_of}
use Rattle.op_law.specs.Identifiers.{has_id}
use Rattle.fk_closing.specs.Looking.{goal_at, Refers, HasGoal, IsWitness}

-- by which rules identifiers are followed
pub record Rule : Type 0 where
  -- the foreign keys of S
  pub keys : Rows
  -- what is changed in the first table of the near side
  pub changed : List ℕ
  -- a row of T brings a row that refers to it
  pub witness : Bool

-- a row that refers to q and isn't changed, where there is one
pub record Witnessed (place : ℕ) (changed : ℕ → Bool) (s : Rows) (q : ℕ) (more : List ℕ) : Type 0 where
  pub id : ℕ
  pub refers : Refers place s q id
  pub stays : changed id ≡ false
  pub among : has_id more id ≡ true

abbrev pub WitnessBrought : Rule → Bool → ℕ → List ℕ → Type 0
WitnessBrought rule false q more = Unit {0}
WitnessBrought rule true q more =
    (p : ℕ) (v : List Value) → has_id rule.changed p ≡ false → row_of rule.keys p ≡ Some v → goal_at 0 v ≡ Some q → Witnessed 0 (has_id rule.changed) rule.keys q more

-- what is found for that: a row that refers to q
abbrev pub IsWitnessBy : Rule → Bool → ℕ → Option ℕ → Type 0
IsWitnessBy rule false q found = Unit {0}
IsWitnessBy rule true q found = IsWitness 0 rule.keys (has_id rule.changed) q found

-- all that q brings is among these
pub record IsBrought (rule : Rule) (q : ℕ) (more : List ℕ) : Type 0 where
  pub goal : (v : List Value) → row_of rule.keys q ≡ Some v → HasGoal 0 more v
  pub witness : WitnessBrought rule rule.witness q more
