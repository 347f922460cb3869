-- Rows of S that refer to an identifier, in order.
use Rattle.std.specs.Prelude.{◌≡◌, ℕ, ◌≤◌, true, Bool, false, List, Option, Some, None, MatchOption}
use Rattle.par_base.specs.declared.value.Value.{Value}
use Rattle.row_store.specs.Rows.{Rows, row_of}
use Rattle.op_law.specs.Identifiers.{has_id}
use Rattle.row_parts.specs.RowEdits.{value_at}
use Rattle.foreign_keys.specs.References.{goal_of}
use Rattle.key_index.specs.Found.{IsLeastFrom}

-- the identifier to which a row of S refers, with the foreign key at this place
abbrev pub goal_at : ℕ → List Value → Option ℕ
goal_at place row = goal_of (value_at place row)

-- likewise of what S has at an identifier
abbrev pub goal_in : ℕ → Option (List Value) → Option ℕ
goal_in place None = None
goal_in place (Some row) = goal_at place row

module _ (place : ℕ) (s : Rows) where
  -- w is a row of S that refers to q
  pub record Refers (q w : ℕ) : Type 0 where
    pub row : List Value
    pub at : row_of s w ≡ Some row
    pub goal : goal_at place row ≡ Some q

  -- no row of S from this identifier on refers to q
  abbrev pub NoneRefers : ℕ → ℕ → Type 0
  NoneRefers q from = (p : ℕ) (v : List Value) → from ≤ p → row_of s p ≡ Some v → goal_at place v ≡ Some q → ⊥

  -- w is the least one that does
  pub record RefersFirst (q from w : ℕ) : Type 0 where
    pub refers : Refers q w
    pub behind : from ≤ w
    pub least : (p : ℕ) (v : List Value) → from ≤ p → row_of s p ≡ Some v → goal_at place v ≡ Some q → w ≤ p

  -- the least row of S from this identifier on that refers to q
  abbrev pub IsNextRef : ℕ → ℕ → Option ℕ → Type 0
  IsNextRef q from found = MatchOption found (NoneRefers q from) (λ w. RefersFirst q from w)

  -- all rows of S that refer to q are among these
  abbrev pub HasRefs : List ℕ → ℕ → Type 0
  HasRefs more q = (p : ℕ) (v : List Value) → row_of s p ≡ Some v → goal_at place v ≡ Some q → has_id more p ≡ true

  -- a row of S that refers to q and isn't changed; none only where there is none
  abbrev pub IsWitness : (ℕ → Bool) → ℕ → Option ℕ → Type 0
  IsWitness changed q found =
      MatchOption found
      ((p : ℕ) (v : List Value) → changed p ≡ false → row_of s p ≡ Some v → goal_at place v ≡ Some q → ⊥)
      (λ w. (changed w ≡ false) × Refers q w)

-- the identifier to which the row refers is among these
abbrev pub HasGoal : ℕ → List ℕ → List Value → Type 0
HasGoal place more row = (g : ℕ) → goal_at place row ≡ Some g → has_id more g ≡ true

-- the least row with the T part of the row is
abbrev pub HasLeast : (List Value → List Value) → Rows → List ℕ → List Value → Type 0
HasLeast second keys more row = (g : ℕ) → IsLeastFrom keys (second row) 0 (Some g) → has_id more g ≡ true
