-- Room for changes in kept tables, auxiliary tables and memories.
use Rattle.std.specs.Prelude.{ℕ, ◌+◌, ◌≤◌, List, [], ◌∷◌, length, map}
use Rattle.std.specs.Option.{option_map_or}
use Rattle.row_store.specs.declared.change.Change.{Change}
use Rattle.row_store.specs.States.{TableState}
use Rattle.id_memory.specs.States.{MemoryState}
use Rattle.version_graph.specs.Sets.{Each}
use Rattle.op_law.specs.Tables.{Tables}
use Rattle.op_law.specs.declared.side.Aux.{Aux}
use Rattle.row_changes.specs.declared.change.SideChanges.{SideChanges}
use Rattle.row_changes.specs.Changed.{TableChanges}
use Rattle.pair_changes.specs.declared.change.PairChange.{PairChange}
use Rattle.pair_changes.specs.Undo.{PairsFit}
use Rattle.version_model.specs.Kept.{rows_at, auxes_at, pairs_at, value_of}
use Rattle.version_model.specs.declared.numbered.Numbered.{Numbered}

-- how many more rows fit each table without memory
abbrev pub spares : List TableState → List ℕ
spares tables = map (λ table. table.spare) tables

-- how many more rows fit the table under a number: none where no table is kept
abbrev pub room_at : List (Numbered TableState) → ℕ → ℕ
room_at tables n = option_map_or (λ (table : TableState). table.spare) (value_of tables n) 0

-- likewise for each of the auxiliary tables under a number
abbrev pub rooms_at : List (Numbered Aux) → ℕ → List ℕ
rooms_at auxes n = option_map_or (λ (aux : Aux). spares aux.tables) (value_of auxes n) []

-- each table has room for one row a change
abbrev pub HaveRoom : List ℕ → TableChanges → Type 0
HaveRoom [] changes = Unit {0}
HaveRoom (r ∷ rs) [] = Unit {0}
HaveRoom (r ∷ rs) (c ∷ cs) = (length c ≤ r) × HaveRoom rs cs

-- changes have room in the table under their number
abbrev pub IsFitAt : List (Numbered TableState) → Numbered (List Change) → Type 0
IsFitAt tables i = length i.value ≤ room_at tables i.number

-- all changes have room in the tables under their numbers
abbrev pub FitAt : List (Numbered TableState) → List (Numbered (List Change)) → Type 0
FitAt tables items = Each (λ i. IsFitAt tables i) items

-- changes of several tables have room in the auxiliary tables under their number
abbrev pub IsSideFitAt : List (Numbered Aux) → Numbered SideChanges → Type 0
IsSideFitAt auxes i = HaveRoom (rooms_at auxes i.number) i.value.tables

-- all such changes have room in the auxiliary tables under their numbers
abbrev pub SidesFitAt : List (Numbered Aux) → List (Numbered SideChanges) → Type 0
SidesFitAt auxes items = Each (λ i. IsSideFitAt auxes i) items

-- how many more pairs fit the memory under a number: none where no memory is kept
abbrev pub memory_room_at : List (Numbered MemoryState) → ℕ → ℕ
memory_room_at memories n = option_map_or (λ (memory : MemoryState). memory.room) (value_of memories n) 0

-- changes have room in the memory under their number
abbrev pub IsMemoryFitAt : List (Numbered MemoryState) → Numbered (List PairChange) → Type 0
IsMemoryFitAt memories i = PairsFit (memory_room_at memories i.number) i.value

-- all such changes have room in the memories under their numbers
abbrev pub MemoriesFitAt : List (Numbered MemoryState) → List (Numbered (List PairChange)) → Type 0
MemoriesFitAt memories items = Each (λ i. IsMemoryFitAt memories i) items

-- ---- what can be held without memory: what there is, and the room for more

-- as many numbers, and none is less than the one at its place
abbrev pub AreAtLeast : List ℕ → List ℕ → Type 0
AreAtLeast [] [] = Unit {0}
AreAtLeast (r ∷ rs) (s ∷ ss) = (r ≤ s) × AreAtLeast rs ss
AreAtLeast [] (s ∷ ss) = ⊥
AreAtLeast (r ∷ rs) [] = ⊥

-- how many rows the table under a number can hold without memory
abbrev pub capacity_at : List (Numbered TableState) → ℕ → ℕ
capacity_at tables n = room_at tables n + length (rows_at tables n)

-- how many rows each table can hold
abbrev pub capacities : List ℕ → Tables → List ℕ
capacities [] ts = []
capacities (r ∷ rs) [] = []
capacities (r ∷ rs) (t ∷ ts) = (r + length t) ∷ capacities rs ts

-- likewise each of the auxiliary tables under a number
abbrev pub capacities_at : List (Numbered Aux) → ℕ → List ℕ
capacities_at auxes n = capacities (rooms_at auxes n) (auxes_at auxes n)

-- how many pairs the memory under a number can hold
abbrev pub memory_capacity_at : List (Numbered MemoryState) → ℕ → ℕ
memory_capacity_at memories n = memory_room_at memories n + length (pairs_at memories n)
