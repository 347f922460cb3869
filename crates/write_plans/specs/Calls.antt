-- What inner calls ensure.
use Rattle.std.specs.Prelude.{◌≡◌, ℕ, ◌<◌, false, List, filter, map}
use Rattle.row_store.specs.Rows.{Rows}
use Rattle.row_store.specs.States.{TableState}
use Rattle.id_memory.specs.Pairs.{Pairs}
use Rattle.id_memory.specs.States.{MemoryState}
use Rattle.row_store.specs.declared.change.Change.{Change}
use Rattle.version_graph.specs.Edges.{is_in}
use Rattle.version_graph.specs.Sets.{In}
use Rattle.op_law.specs.Meaning.{Meaning}
use Rattle.op_law.specs.declared.side.Aux.{Aux}
use Rattle.pair_parts.specs.Parts.{IsMemory}
use Rattle.changes_walk.specs.Changing.{latest_changes}
use Rattle.pair_changes.specs.declared.change.PairChange.{PairChange}
use Rattle.pair_changes.specs.Changed.{PairsLeadTo, changed_pairs}
use Rattle.version_model.specs.Kept.{pairs_at, pairs_now, rows_at, auxes_at, numbers_in}
use Rattle.version_model.specs.declared.numbered.Numbered.{Numbered}
use Rattle.db_state.specs.Fields.{state_for}
use Rattle.db_state.specs.Parts.{passes}
use Rattle.db_state.specs.declared.sight.Sight.{Sight}
use Rattle.db_state.specs.declared.parts.Parts.{Parts}
use Rattle.write_plans.specs.Trees.{part}
use Rattle.write_plans.specs.declared.copies.Copies.{Copies}
use Rattle.write_plans.specs.declared.tree.Tree.{Tree}

-- each table's rows beside its number
abbrev pub told_rows : List (Numbered TableState) → List (ℕ × Rows)
told_rows items = map (λ (i : Numbered TableState). (i.number, i.value.rows)) items

-- each memory's entries beside its number
abbrev pub told_pairs : List (Numbered MemoryState) → List (ℕ × Pairs)
told_pairs items = map (λ (i : Numbered MemoryState). (i.number, i.value.entries)) items

-- the values of these numbers beside them
abbrev pub beside : {A : Type 0} → (ℕ → A) → List ℕ → List (ℕ × A)
beside f ns = map (λ n. (n, f n)) ns

-- the copies hold what is seen of the tree
pub record CopiesTree {O : Type 0} (meaning : O → Meaning) (d : Parts O) (tree : Tree) (sight : Sight) (copies : Copies) : Type 0 where
  pub tables : (t : ℕ) → rows_at copies.tables t ≡ (part (passes sight) tree (state_for meaning d)).tables t
  pub memories : (n : ℕ) → pairs_at copies.memories n ≡ (part (passes sight) tree (state_for meaning d)).memory n

-- only identifiers are seen that are drawn from n on
abbrev pub AreToCome : Sight → ℕ → Type 0
AreToCome sight n = (id : ℕ) → id < n → passes sight id ≡ false

-- the stored tables of the tree
abbrev pub stored_in : {O : Type 0} → Parts O → Tree → List ℕ
stored_in d tree = filter (λ t. is_in t tree.tables) (numbers_in d.stored)

-- the last changes under each of these numbers
pub record AreChangesNow (made : List (Numbered (List Change))) (numbers : List ℕ) (items : List (Numbered (List Change))) : Type 0 where
  pub listed : numbers_in items ≡ numbers
  pub values : (i : Numbered (List Change)) → In i items → i.value ≡ latest_changes made i.number

-- the same rows are kept under the same numbers
pub record KeepsRows (old new : List (Numbered TableState)) : Type 0 where
  pub rows : (n : ℕ) → rows_at new n ≡ rows_at old n
  pub listed : numbers_in new ≡ numbers_in old

pub record KeepsAuxes (old new : List (Numbered Aux)) : Type 0 where
  pub rows : (n : ℕ) → auxes_at new n ≡ auxes_at old n
  pub listed : numbers_in new ≡ numbers_in old

pub record KeepsPairs (old new : List (Numbered MemoryState)) : Type 0 where
  pub pairs : (n : ℕ) → pairs_at new n ≡ pairs_at old n
  pub listed : numbers_in new ≡ numbers_in old

-- the changes lead from one memory to the other, and make it
pub record IsMemoryChange (old new : Pairs) (changes : List PairChange) : Type 0 where
  pub stood : IsMemory old
  pub lead : PairsLeadTo old new changes
  pub makes : changed_pairs old changes ≡ new

-- those of the memory under each of these numbers, to the one that was made last
pub record AreMemoryChangesNow (kept made : List (Numbered MemoryState)) (numbers : List ℕ) (items : List (Numbered (List PairChange))) : Type 0 where
  pub listed : numbers_in items ≡ numbers
  pub values : (i : Numbered (List PairChange)) → In i items → IsMemoryChange (pairs_at kept i.number) (pairs_now kept made i.number) i.value
