-- Identifiers that are closed under the references of rows.
use Rattle.std.specs.Prelude.{◌≡◌, ◌⊎◌, ℕ, Bool, true, false, List, Some, None}
use Rattle.par_base.specs.declared.value.Value.{Value}
use Rattle.row_store.specs.Rows.{Rows, row_of}
use Rattle.foreign_keys.specs.KeyParts.{FkParts}
use Rattle.foreign_keys.specs.References.{goal_of}

module _ (k : FkParts) (P : ℕ → Bool) where
  -- a row of S that passes brings the row of T to which it refers, where there is one
  abbrev pub BringsGoals : Rows → Rows → Type 0
  BringsGoals s t = (p : ℕ) (v : List Value) (q : ℕ) → P p ≡ true → row_of s p ≡ Some v → goal_of (k.key v) ≡ Some q → (P q ≡ true) ⊎ (row_of t q ≡ None)

  -- a row of S that doesn't pass refers to no row of T that is another one in new T
  abbrev pub SeesNoChange : Rows → Rows → Rows → Type 0
  SeesNoChange s t new = (p : ℕ) (v : List Value) (q : ℕ) → P p ≡ false → row_of s p ≡ Some v → goal_of (k.key v) ≡ Some q → row_of new q ≡ row_of t q

  -- a row of S that passes and refers to q, where the table that is changed has what it had
  pub record Witness (s old new : Rows) (q : ℕ) : Type 0 where
    pub id : ℕ
    pub row : List Value
    pub passed : P id ≡ true
    pub at : row_of s id ≡ Some row
    pub goal : goal_of (k.key row) ≡ Some q
    pub still : row_of new id ≡ row_of old id

  -- a row of T that passes, and to which a row of S refers that doesn't, brings one that does
  abbrev pub BringsWitness : Rows → Rows → Rows → Rows → Type 0
  BringsWitness s t old new = (q : ℕ) (u : List Value) (p : ℕ) (v : List Value) → P q ≡ true → row_of t q ≡ Some u → P p ≡ false → row_of s p ≡ Some v → goal_of (k.key v) ≡ Some q → Witness s old new q
