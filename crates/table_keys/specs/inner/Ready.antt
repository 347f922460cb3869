-- When changes may be made without memory.
use Rattle.std.specs.Prelude.{◌≡◌, ℕ, ◌≤◌, List, length, Option, Some, None}
use Rattle.par_base.specs.declared.value.Value.{Value}
use Rattle.row_store.specs.declared.change.Change.{Change}
use Rattle.key_index.specs.Changes.{news}

-- the changes that are ready find room by identifier, and their new keys are ready by value
abbrev pub AreReady : ℕ → List (Option (List Value)) → Option (List Change) → Type 0
AreReady spare ready None = Unit {0}
AreReady spare ready (Some changes) = (length changes ≤ spare) × (ready ≡ news changes)
