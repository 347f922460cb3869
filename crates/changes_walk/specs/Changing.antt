-- A write on its way, told by its changes: the state that they make of the old one.
use Rattle.std.specs.Prelude.{ℕ, List, []}
use Rattle.std.specs.Option.{option_map_or}
use Rattle.row_store.specs.declared.change.Change.{Change}
use Rattle.row_store.specs.Changes.{ChangesRise, AreOld}
use Rattle.id_memory.specs.Pairs.{Pairs}
use Rattle.id_memory.specs.States.{MemoryState}
use Rattle.row_changes.specs.Changed.{changed}
use Rattle.version_model.specs.Kept.{latest_of, newer_pairs}
use Rattle.version_model.specs.States.{State}
use Rattle.version_model.specs.declared.numbered.Numbered.{Numbered}
use Rattle.changes_walk.specs.declared.progress.Changing.{Changing}

-- the last changes that came under a number: none where none came
abbrev pub latest_changes : List (Numbered (List Change)) → ℕ → List Change
latest_changes items t = option_map_or (λ (cs : List Change). cs) (latest_of items t) []

-- the entries of each memory: those that came last, else the old ones
abbrev pub latest_pairs : (ℕ → Pairs) → List (Numbered MemoryState) → ℕ → Pairs
latest_pairs old items n = newer_pairs (latest_of items n) (old n)

-- THE STATE THAT THE CHANGES MAKE
abbrev pub changing_state : State → Changing → State
changing_state old c = record { tables = λ t. changed (old.tables t) (latest_changes c.tables t); memory = latest_pairs old.memory c.memories; next = c.ids.next }

-- the changes of each table rise, and each old row is that of the old state
abbrev pub AreOfState : State → List (Numbered (List Change)) → Type 0
AreOfState old items = (t : ℕ) → ChangesRise 0 (latest_changes items t) × AreOld (old.tables t) (latest_changes items t)
