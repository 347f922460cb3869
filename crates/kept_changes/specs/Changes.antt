-- Changes of kept tables, auxiliary tables and memories, under their numbers.
use Rattle.std.specs.Prelude.{ℕ, List, []}
use Rattle.std.specs.Option.{option_map_or}
use Rattle.row_store.specs.declared.change.Change.{Change}
use Rattle.row_store.specs.States.{TableState}
use Rattle.row_store.specs.Changes.{AreOld}
use Rattle.id_memory.specs.States.{MemoryState}
use Rattle.version_graph.specs.Sets.{Distinct, Each, In}
use Rattle.op_law.specs.declared.side.Aux.{Aux}
use Rattle.row_changes.specs.declared.change.SideChanges.{SideChanges}
use Rattle.row_changes.specs.Changed.{TableChanges, AreChangesOf}
use Rattle.pair_changes.specs.declared.change.PairChange.{PairChange}
use Rattle.pair_changes.specs.Changed.{AreMemoryChanges}
use Rattle.version_model.specs.Kept.{rows_at, value_of, auxes_at, pairs_at, numbers_in}
use Rattle.version_model.specs.declared.numbered.Numbered.{Numbered}

-- the changes under a number: none where there are none
abbrev pub changes_at : List (Numbered (List Change)) → ℕ → List Change
changes_at items n = option_map_or (λ (changes : List Change). changes) (value_of items n) []

-- the changes of several tables under a number
abbrev pub sides_at : List (Numbered SideChanges) → ℕ → TableChanges
sides_at items n = option_map_or (λ (side : SideChanges). side.tables) (value_of items n) []

-- changes of a kept table, with the old rows of each
abbrev pub IsOldAt : List (Numbered TableState) → Numbered (List Change) → Type 0
IsOldAt tables i = In i.number (numbers_in tables) × AreOld (rows_at tables i.number) i.value

-- the numbers of changes differ, each is that of a kept table, and its old rows are there
abbrev pub AreOldAt : List (Numbered TableState) → List (Numbered (List Change)) → Type 0
AreOldAt tables items = Distinct (numbers_in items) × Each (λ i. IsOldAt tables i) items

-- changes to each of the auxiliary tables under a number
abbrev pub IsSideAt : List (Numbered Aux) → Numbered SideChanges → Type 0
IsSideAt auxes i = AreChangesOf (auxes_at auxes i.number) i.value.tables

-- the numbers differ, and each has changes to each of its auxiliary tables
abbrev pub AreSidesAt : List (Numbered Aux) → List (Numbered SideChanges) → Type 0
AreSidesAt auxes items = Distinct (numbers_in items) × Each (λ i. IsSideAt auxes i) items

-- the changes of a memory under a number
abbrev pub pair_changes_at : List (Numbered (List PairChange)) → ℕ → List PairChange
pair_changes_at items n = option_map_or (λ (changes : List PairChange). changes) (value_of items n) []

-- changes of a kept memory, which lead to another one
abbrev pub IsMemoryAt : List (Numbered MemoryState) → Numbered (List PairChange) → Type 0
IsMemoryAt memories i = In i.number (numbers_in memories) × AreMemoryChanges (pairs_at memories i.number) i.value

-- the numbers differ, and each has changes of its memory
abbrev pub AreMemoriesAt : List (Numbered MemoryState) → List (Numbered (List PairChange)) → Type 0
AreMemoriesAt memories items = Distinct (numbers_in items) × Each (λ i. IsMemoryAt memories i) items
