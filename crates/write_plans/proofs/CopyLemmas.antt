-- Copies of a tree hold what is seen of it.
use Rattle.std.proofs.Common.{◌≡◌, ℕ, ◌<◌, ◌≤◌, Bool, List, [], ◌∷◌, cond, true, false, inl, inr, refl, sym, ◌∙◌, arith}
use Rattle.id_memory.specs.Pairs.{Pairs}
use Rattle.row_store.specs.Rows.{Rows}
use Rattle.op_law.specs.Identifiers.{IdsRise, has_id}
use Rattle.op_law.specs.Local.{rows_only}
use Rattle.op_law.specs.Sound.{PairsSound, RowsSound}
use Rattle.pair_parts.specs.Parts.{memory_only}
use Rattle.row_store.specs.States.{TableState}
use Rattle.id_memory.specs.States.{MemoryState}
use Rattle.version_graph.specs.Sets.{In}
use Rattle.version_graph.specs.Tables.{table_numbers}
use Rattle.version_graph.specs.Edges.{is_in, made as made_tables}
use Rattle.version_graph.specs.Forest.{Link, forest}
use Rattle.op_law.specs.Meaning.{Meaning}
use Rattle.op_law.proofs.IdentifierLaws.{none_before}
use Rattle.layout_rules.specs.Ways.{ReadsOver}
use Rattle.version_model.specs.Kept.{pairs_at, rows_at, rows_now}
use Rattle.version_model.specs.declared.numbered.Numbered.{Numbered}
use Rattle.version_model.proofs.HeadingLaws.{in_or_not}
use Rattle.storage_law.specs.Storage.{stored_way}
use Rattle.db_state.specs.Covered.{Covers, CoversItself}
use Rattle.db_state.specs.Fields.{IsDatabase, state_for}
use Rattle.db_state.specs.declared.parts.Parts.{Parts}
use Rattle.write_plans.specs.Calls.{AreToCome, CopiesTree, beside, told_pairs, told_rows}
use Rattle.db_state.specs.Parts.{entries_of, passes, seen_of}
use Rattle.db_state.specs.declared.sight.Sight.{Sight}
use Rattle.version_model.specs.States.{State}
use Rattle.changes_walk.specs.Reach.{IsBeside, IsWhole}
use Rattle.write_plans.specs.Trees.{part}
use Rattle.write_plans.specs.declared.tree.Tree.{Tree}
use Rattle.write_plans.proofs.ItemLemmas.{seen_told, seen_untold}
use Rattle.write_plans.proofs.TreeLemmas.{no_memory, no_table, part_memory, part_table}

-- a table is read over operators that have it on a side
read_beside : {O : Type 0} (es : List (Link O)) (layout : List ℕ) (t : ℕ) (e : Link O) → ReadsOver es layout t e → IsBeside t e
read_beside es layout t e (inl up) = inr up.0
read_beside es layout t e (inr down) = inl down.1

module _ {O : Type 0} (meaning : O → Meaning) (d : Parts O) (tree : Tree) (whole : IsWhole d.graph.edges tree.operators tree.tables) where
  -- so a table of the tree is read over its operators
  covers : (t : ℕ) → In t tree.tables → Covers (forest d.graph.edges) d.layout.operators tree.operators t
  covers t i e j over = whole.operators e j t i (read_beside (forest d.graph.edges) d.layout.operators t e over)

  near_beside : (e : Link O) (t : ℕ) → In t (stored_way d.layout.operators e).near → IsBeside t e
  near_beside e t i = elim (is_in e.number d.layout.operators) as (λ b. In t (cond b e.targets e.sources) → IsBeside t e) [ true ↦ λ k. inr k | false ↦ λ k. inl k ] i

  pub covers_itself : CoversItself (forest d.graph.edges) d.layout.operators tree.operators
  covers_itself e i own t near = covers t (whole.tables e i own t (near_beside e t near))

  module _ (sight : Sight) (read tables : List (Numbered TableState)) (memories : List (Numbered MemoryState))
      (is_read : (t : ℕ) → In t (table_numbers (made_tables d.graph.edges)) → Covers (forest d.graph.edges) d.layout.operators tree.operators t → seen_of sight (rows_now d.stored read) t ≡ seen_of sight (state_for meaning d).tables t)
      (copied : told_rows tables ≡ beside (seen_of sight (rows_now d.stored read)) tree.tables) (held : told_pairs memories ≡ beside (entries_of sight (pairs_at d.memories)) tree.operators) where
    abbrev now : State
    now = part (passes sight) tree (state_for meaning d)

    copied_table : (t : ℕ) → rows_at tables t ≡ now.tables t
    copied_table t =
        let s = state_for meaning d in
        in_or_not t tree.tables (rows_at tables t ≡ now.tables t)
        (λ i. seen_told (λ (x : TableState). x.rows) (seen_of sight (rows_now d.stored read)) tables tree.tables copied t i [] ∙ is_read t (whole.live t i) (covers t i) ∙ sym (part_table (passes sight) tree s t i))
        (λ none. seen_untold (λ (x : TableState). x.rows) (seen_of sight (rows_now d.stored read)) tables tree.tables copied t none [] ∙ sym (no_table (passes sight) tree s t none))

    copied_memory : (n : ℕ) → pairs_at memories n ≡ now.memory n
    copied_memory n =
        let s = state_for meaning d in
        in_or_not n tree.operators (pairs_at memories n ≡ now.memory n)
        (λ i. seen_told (λ (x : MemoryState). x.entries) (entries_of sight (pairs_at d.memories)) memories tree.operators held n i [] ∙ sym (part_memory (passes sight) tree s n i))
        (λ none. seen_untold (λ (x : MemoryState). x.entries) (entries_of sight (pairs_at d.memories)) memories tree.operators held n none [] ∙ sym (no_memory (passes sight) tree s n none))

    pub copies_tree : CopiesTree meaning d tree sight (record { tables = tables; memories = memories })
    copies_tree = record { tables = copied_table; memories = copied_memory }

-- ---- identifiers to come

-- what begins at an identifier or above has none before
pub none_before_first : (first : ℕ) (rest : List ℕ) (n : ℕ) → IdsRise 0 (first ∷ rest) → n ≤ first → (id : ℕ) → id < n → has_id (first ∷ rest) id ≡ false
none_before_first first rest n rise most id before = none_before first (first ∷ rest) id (omega arith, rise.1) (omega (arith, most, before))

-- of rows below the next identifier none pass that are to come
no_rows : (P : ℕ → Bool) (n : ℕ) (rows : Rows) → RowsSound n rows → ((id : ℕ) → id < n → P id ≡ false) → rows_only P rows ≡ []
no_rows P n [] sound none = refl
no_rows P n (r ∷ rs) sound none = rw (none r.0 sound.0.0.1) (no_rows P n rs sound.1 none)

-- and none of the entries
no_entries : (P : ℕ → Bool) (n : ℕ) (es : Pairs) → PairsSound n es → ((id : ℕ) → id < n → P id ≡ false) → memory_only P es ≡ []
no_entries P n [] sound none = refl
no_entries P n (e ∷ es) sound none = rw (none e.0 sound.0.0.1) (no_entries P n es sound.1 none)

-- SO NOTHING IS SEEN OF A TREE
pub copies_none : {O : Type 0} (meaning : O → Meaning) (d : Parts O) → IsDatabase meaning d → (tree : Tree) (sight : Sight) → AreToCome sight d.ids.next → CopiesTree meaning d tree sight (record { tables = []; memories = [] })
copies_none meaning d good tree sight come =
    let s = state_for meaning d in
    record {
      tables = λ t. in_or_not t tree.tables ([] ≡ (part (passes sight) tree s).tables t)
          (λ i. sym (part_table (passes sight) tree s t i ∙ no_rows (passes sight) d.ids.next (s.tables t) (good.sound.well.rows t) come))
          (λ none. sym (no_table (passes sight) tree s t none));
      memories = λ n. in_or_not n tree.operators ([] ≡ (part (passes sight) tree s).memory n)
          (λ i. sym (part_memory (passes sight) tree s n i ∙ no_entries (passes sight) d.ids.next (s.memory n) (good.sound.well.memories n) come))
          (λ none. sym (no_memory (passes sight) tree s n none));
    }
