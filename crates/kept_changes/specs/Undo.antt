-- When changes of kept tables, auxiliary tables and memories can be taken back, and what that restores.
use Rattle.std.specs.Prelude.{◌≡◌, ℕ, ◌+◌, ◌≤◌, List, [], ◌∷◌, length}
use Rattle.row_store.specs.declared.change.Change.{Change}
use Rattle.row_store.specs.Rows.{Rows}
use Rattle.row_store.specs.States.{TableState}
use Rattle.row_store.specs.Changes.{WasApplied}
use Rattle.id_memory.specs.States.{MemoryState}
use Rattle.version_graph.specs.Sets.{Distinct, Each, In}
use Rattle.op_law.specs.Tables.{Tables}
use Rattle.op_law.specs.declared.side.Aux.{Aux}
use Rattle.row_changes.specs.declared.change.SideChanges.{SideChanges}
use Rattle.row_changes.specs.Changed.{TableChanges}
use Rattle.pair_changes.specs.declared.change.PairChange.{PairChange}
use Rattle.pair_changes.specs.Undo.{PairsLeadBack}
use Rattle.version_model.specs.Kept.{rows_at, auxes_at, pairs_at, numbers_in}
use Rattle.version_model.specs.declared.numbered.Numbered.{Numbered}
use Rattle.kept_changes.specs.Room.{room_at, rooms_at, memory_room_at}

-- `back` is what changes left that made `now` of `before`, and there is room for the rows by which the table grows
abbrev pub LeadsBack : Rows → Rows → ℕ → List Change → Type 0
LeadsBack before now room back = (changes : List Change) × WasApplied before changes now back × (length before ≤ room + length now)

-- likewise for each table of a side; those that have no changes are as they were
abbrev pub SideLeadsBack : Tables → Tables → List ℕ → TableChanges → Type 0
SideLeadsBack before now rooms [] = now ≡ before
SideLeadsBack [] now rooms (c ∷ cs) = ⊥
SideLeadsBack (b ∷ bs) [] rooms (c ∷ cs) = ⊥
SideLeadsBack (b ∷ bs) (t ∷ ts) [] (c ∷ cs) = ⊥
SideLeadsBack (b ∷ bs) (t ∷ ts) (r ∷ rs) (c ∷ cs) = LeadsBack b t r c × SideLeadsBack bs ts rs cs

-- changes of a kept table lead back to what was kept under its number
abbrev pub LeadsBackAt : List (Numbered TableState) → List (Numbered TableState) → Numbered (List Change) → Type 0
LeadsBackAt before now i = In i.number (numbers_in now) × LeadsBack (rows_at before i.number) (rows_at now i.number) (room_at now i.number) i.value

-- all changes do, and the other tables are as they were
pub record TablesLeadBack (before now : List (Numbered TableState)) (back : List (Numbered (List Change))) : Type 0 where
  pub listed : numbers_in now ≡ numbers_in before
  pub distinct : Distinct (numbers_in back)
  pub changes : Each (λ i. LeadsBackAt before now i) back
  pub others : (n : ℕ) → (In n (numbers_in back) → ⊥) → rows_at now n ≡ rows_at before n

-- changes of auxiliary tables lead back to those that were kept under their number
abbrev pub SideLeadsBackAt : List (Numbered Aux) → List (Numbered Aux) → Numbered SideChanges → Type 0
SideLeadsBackAt before now i = SideLeadsBack (auxes_at before i.number) (auxes_at now i.number) (rooms_at now i.number) i.value.tables

-- all such changes do, and the other auxiliary tables are as they were
pub record AuxesLeadBack (before now : List (Numbered Aux)) (back : List (Numbered SideChanges)) : Type 0 where
  pub listed : numbers_in now ≡ numbers_in before
  pub distinct : Distinct (numbers_in back)
  pub changes : Each (λ i. SideLeadsBackAt before now i) back
  pub others : (n : ℕ) → (In n (numbers_in back) → ⊥) → auxes_at now n ≡ auxes_at before n

-- there are tables to which the changes lead back
abbrev pub TablesUndoable : List (Numbered TableState) → List (Numbered (List Change)) → Type 0
TablesUndoable now back = (before : List (Numbered TableState)) × TablesLeadBack before now back

-- there are auxiliary tables to which the changes lead back
abbrev pub AuxesUndoable : List (Numbered Aux) → List (Numbered SideChanges) → Type 0
AuxesUndoable now back = (before : List (Numbered Aux)) × AuxesLeadBack before now back

-- to whatever tables the changes lead back, their rows are there again
abbrev pub RestoresTables : List (Numbered TableState) → List (Numbered (List Change)) → List (Numbered TableState) → Type 0
RestoresTables now back again = (before : List (Numbered TableState)) → TablesLeadBack before now back → (n : ℕ) → rows_at again n ≡ rows_at before n

-- to whatever auxiliary tables the changes lead back, their rows are there again
abbrev pub RestoresAuxes : List (Numbered Aux) → List (Numbered SideChanges) → List (Numbered Aux) → Type 0
RestoresAuxes now back again = (before : List (Numbered Aux)) → AuxesLeadBack before now back → (n : ℕ) → auxes_at again n ≡ auxes_at before n

-- changes of a kept memory lead back to what was kept under its number
abbrev pub MemoryLeadsBackAt : List (Numbered MemoryState) → List (Numbered MemoryState) → Numbered (List PairChange) → Type 0
MemoryLeadsBackAt before now i = In i.number (numbers_in now) × PairsLeadBack (pairs_at before i.number) (pairs_at now i.number) (memory_room_at now i.number) i.value

-- all such changes do, and the other memories are as they were
pub record MemoriesLeadBack (before now : List (Numbered MemoryState)) (back : List (Numbered (List PairChange))) : Type 0 where
  pub listed : numbers_in now ≡ numbers_in before
  pub distinct : Distinct (numbers_in back)
  pub changes : Each (λ i. MemoryLeadsBackAt before now i) back
  pub others : (n : ℕ) → (In n (numbers_in back) → ⊥) → pairs_at now n ≡ pairs_at before n

-- there are memories to which the changes lead back
abbrev pub MemoriesUndoable : List (Numbered MemoryState) → List (Numbered (List PairChange)) → Type 0
MemoriesUndoable now back = (before : List (Numbered MemoryState)) × MemoriesLeadBack before now back

-- to whatever memories the changes lead back, their pairs are there again
abbrev pub RestoresMemories : List (Numbered MemoryState) → List (Numbered (List PairChange)) → List (Numbered MemoryState) → Type 0
RestoresMemories now back again = (before : List (Numbered MemoryState)) → MemoriesLeadBack before now back → (n : ℕ) → pairs_at again n ≡ pairs_at before n
