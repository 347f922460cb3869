-- What the inner calls suppose and ensure.
use Rattle.std.specs.Prelude.{◌≡◌, ℕ, ◌≤◌, ◌==◌, false, List, [], ◌∷◌, length}
use Rattle.row_store.specs.States.{TableState}
use Rattle.row_store.specs.Changes.{AreOld}
use Rattle.id_memory.specs.States.{MemoryState}
use Rattle.op_law.specs.declared.side.Aux.{Aux}
use Rattle.row_changes.specs.Changed.{TableChanges}
use Rattle.version_model.specs.Kept.{rows_at, auxes_at, pairs_at}
use Rattle.version_model.specs.declared.numbered.Numbered.{Numbered}
use Rattle.kept_changes.specs.Room.{room_at, rooms_at, memory_room_at}

-- changes to the first tables, each with its old rows and with room for them
abbrev pub Fit : List TableState → TableChanges → Type 0
Fit ts [] = Unit {0}
Fit [] (c ∷ cs) = ⊥
Fit (t ∷ ts) (c ∷ cs) = (AreOld t.rows c × (length c ≤ t.spare)) × Fit ts cs

-- the tables under other numbers keep their rows and their room
abbrev pub OthersStay : ℕ → List (Numbered TableState) → List (Numbered TableState) → Type 0
OthersStay k old new = (n : ℕ) → (n == k) ≡ false → (rows_at new n ≡ rows_at old n) × (room_at new n ≡ room_at old n)

-- the auxiliary tables under other numbers do
abbrev pub OtherSidesStay : ℕ → List (Numbered Aux) → List (Numbered Aux) → Type 0
OtherSidesStay k old new = (n : ℕ) → (n == k) ≡ false → (auxes_at new n ≡ auxes_at old n) × (rooms_at new n ≡ rooms_at old n)

-- the memories under other numbers keep their pairs and their room
abbrev pub OtherMemoriesStay : ℕ → List (Numbered MemoryState) → List (Numbered MemoryState) → Type 0
OtherMemoriesStay k old new = (n : ℕ) → (n == k) ≡ false → (pairs_at new n ≡ pairs_at old n) × (memory_room_at new n ≡ memory_room_at old n)
