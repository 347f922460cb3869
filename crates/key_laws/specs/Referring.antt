-- Rows that refer to others by a foreign key, and rows that stand alone.
use Rattle.std.specs.Prelude.{◌≡◌, ℕ, ◌⊎◌, List, Some, IsSome}
use Rattle.par_base.specs.declared.value.Value.{Value}
use Rattle.par_base.specs.declared.value.Value.TheVariants.{Reference}
use Rattle.row_store.specs.Rows.{Rows, row_of}
use Rattle.row_parts.specs.RowEdits.{value_at}

-- some row of S refers to q: its foreign key, at this place, is the reference to q
pub record Refers (place : ℕ) (s : Rows) (q : ℕ) : Type 0 where
  pub id : ℕ
  pub row : List Value
  pub at : row_of s id ≡ Some row
  pub key : value_at place row ≡ Reference q

-- a row of T isn't alone: S has its identifier, or a row of S refers to it
abbrev pub IsUsed : ℕ → Rows → ℕ → Type 0
IsUsed place s q = IsSome (row_of s q) ⊎ Refers place s q

-- a row of T is alone
abbrev pub IsAlone : ℕ → Rows → Rows → ℕ → Type 0
IsAlone place s t q = IsSome (row_of t q) × (IsUsed place s q → ⊥)
