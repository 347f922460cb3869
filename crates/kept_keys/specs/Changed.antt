-- What changes make of kept keys.
use Rattle.std.specs.Prelude.{◌≡◌, ℕ, List, [], ◌∷◌, Some}
use Rattle.row_store.specs.declared.change.Change.{Change}
use Rattle.version_model.specs.declared.numbered.Numbered.{Numbered}
use Rattle.table_keys.specs.Keys.{keyed_changes}
use Rattle.table_keys.specs.States.{pending_after, ArePendingOld, KeysState}
use Rattle.kept_keys.specs.Kept.{changes_in}

-- each is related to the one at its place
abbrev pub Both : {X : Type 0} → (X → X → Type 0) → List X → List X → Type 0
Both R [] [] = Unit {0}
Both R (x ∷ xs) (y ∷ ys) = R x y × Both R xs ys
Both R [] (y ∷ ys) = ⊥
Both R (x ∷ xs) [] = ⊥

-- the same keys: only what is ready differs
pub record IsSameKeys (old new : Numbered KeysState) : Type 0 where
  pub number : new.number ≡ old.number
  pub columns : new.value.columns ≡ old.value.columns
  pub rows : new.value.rows ≡ old.value.rows

-- the last changes of the table are ready
abbrev pub IsPrepared : List ℕ → List (Numbered (List Change)) → Numbered KeysState → Type 0
IsPrepared tables made item = item.value.pending ≡ Some (keyed_changes item.value.columns (changes_in tables made item.number))

-- what is ready has the old keys
abbrev pub IsReadyOver : Numbered KeysState → Type 0
IsReadyOver item = ArePendingOld item.value.rows item.value.pending

-- what was ready was made
pub record CommitsKeys (old new : Numbered KeysState) : Type 0 where
  pub number : new.number ≡ old.number
  pub columns : new.value.columns ≡ old.value.columns
  pub rows : new.value.rows ≡ pending_after old.value.rows old.value.pending
