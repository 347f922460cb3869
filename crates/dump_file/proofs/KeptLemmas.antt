-- The auxiliary tables and memories of all operators, from those of which a dump tells.
use Rattle.std.specs.Prelude.{Some, None, Err}
use Rattle.std.proofs.Common.{◌≡◌, ℕ, List, [], ◌∷◌, true, false, map, refl, sym, ap, ◌∙◌}
use mathlib.Core.List.{reverse}
use Rattle.par_base.specs.declared.fault.Fault.{Fault}
use Rattle.par_base.specs.declared.fault.Fault.TheVariants.{Refused, Memory}
use Rattle.row_store.specs.Rows.{Rows}
use Rattle.id_memory.specs.Pairs.{Pairs}
use Rattle.id_memory.specs.States.{MemoryState}
use Rattle.version_graph.specs.Edges.{Drawn, IsGraph, numbers}
use Rattle.version_graph.specs.Sets.{Distinct, Each}
use Rattle.version_graph.specs.declared.parts.Placed.{Placed}
use Rattle.version_graph.proofs.SetLaws.{each_of}
use Rattle.version_graph.proofs.TakenLaws.{map_map}
use Rattle.op_law.specs.declared.side.Aux.{Aux}
use Rattle.op_any.specs.Operators.{AnyView}
use Rattle.version_model.specs.declared.numbered.Numbered.{Numbered}
use Rattle.version_model.specs.Kept.{numbers_in}
use Rattle.db_state.specs.declared.parts.Parts.{Parts}
use Rattle.dump_values.specs.Dumps.{Kept}
use Rattle.dump_graph.specs.declared.refused.DumpRefused.{DumpRefused}
use Rattle.dump_file.specs.Stands.{HasNoOther}
use Rattle.dump_file.specs.Told.{aux_line, auxes_told, has_tables, is_some_table, memories_told, memory_line, stored_line}
use Rattle.dump_file.specs.inner.Filled.{filled}
use Rattle.dump_file.specs.inner.Loading.{AreKept, AreMemories, FillsAuxes, FillsMemories, Keeps, is_told}
use Rattle.dump_file.proofs.FillLemmas.{AreEntries, IsElseEmpty, fill_sound, none_filled}

-- ---- auxiliary tables

no_table : (ts : List Rows) → is_some_table ts ≡ false → ts ≡ []
no_table [] e = refl
no_table (t ∷ ts) e = absurd (let clash : true ≡ false = e in cc)

aux_numbers : (made : List (Numbered Aux)) → map (λ (x : ℕ × List Rows). x.0) (map aux_line made) ≡ numbers_in made
aux_numbers made = map_map (λ (x : ℕ × List Rows). x.0) aux_line made

-- auxiliary tables of which just the lines are told are their entries
pub aux_entries : (ns : List ℕ) (lines : List (ℕ × List Rows)) (made : List (Numbered Aux)) → numbers_in made ≡ ns → auxes_told made ≡ lines → AreEntries has_tables [] ns lines (map aux_line made)
aux_entries ns lines made numbers told = record {
  numbers = aux_numbers made ∙ numbers;
  lines_told = told;
  others = each_of (IsElseEmpty has_tables []) (map aux_line made) (λ x i. no_table x.1);
}

-- those that are filled in are told as the lines
pub auxes_filled : (ns : List ℕ) (lines : List (ℕ × List Rows)) (made : List (Numbered Aux)) → Some (map aux_line made) ≡ filled has_tables [] ns lines → (numbers_in made ≡ ns) × (auxes_told made ≡ lines)
auxes_filled ns lines made is =
    let are = fill_sound has_tables [] ns lines (map aux_line made) (sym is) in
    (sym (aux_numbers made) ∙ are.numbers, are.lines_told)

-- where none are filled in none are told as the lines
pub no_auxes : (ns : List ℕ) (lines : List (ℕ × List Rows)) (made : List (Numbered Aux)) → Distinct ns → None ≡ filled has_tables [] ns lines → numbers_in made ≡ ns → auxes_told made ≡ lines → ⊥
no_auxes ns lines made once none numbers told = none_filled has_tables [] ns lines (map aux_line made) once (sym none) (aux_entries ns lines made numbers told)

-- ---- memories

module _ (es : List (Placed AnyView)) where
  memory_numbers : (made : List (Numbered MemoryState)) → map (λ (x : ℕ × Pairs). x.0) (map memory_line made) ≡ numbers_in made
  memory_numbers made = map_map (λ (x : ℕ × Pairs). x.0) memory_line made

  as_lines : (made : List (Numbered MemoryState)) → HasNoOther es made → Each (IsElseEmpty (is_told es) []) (map memory_line made)
  as_lines [] others = tt
  as_lines (i ∷ is) others = (others.0, as_lines is others.1)

  as_items : (made : List (Numbered MemoryState)) → Each (IsElseEmpty (is_told es) []) (map memory_line made) → HasNoOther es made
  as_items [] others = tt
  as_items (i ∷ is) others = (others.0, as_items is others.1)

  -- memories of which just the lines are told are their entries
  pub memory_entries : (ns : List ℕ) (lines : List (ℕ × Pairs)) (made : List (Numbered MemoryState)) → AreMemories es ns lines made → AreEntries (is_told es) [] ns lines (map memory_line made)
  memory_entries ns lines made are = record { numbers = memory_numbers made ∙ are.numbers; lines_told = are.told; others = as_lines made are.others }

  -- those that are filled in are told as the lines
  pub memories_filled : (ns : List ℕ) (lines : List (ℕ × Pairs)) (made : List (Numbered MemoryState)) → Some (map memory_line made) ≡ filled (is_told es) [] ns lines → AreMemories es ns lines made
  memories_filled ns lines made is =
      let are = fill_sound (is_told es) [] ns lines (map memory_line made) (sym is) in
      record { numbers = sym (memory_numbers made) ∙ are.numbers; told = are.lines_told; others = as_items made are.others }

  -- where none are filled in none are told as the lines
  pub no_memories : (ns : List ℕ) (lines : List (ℕ × Pairs)) (made : List (Numbered MemoryState)) → Distinct ns → None ≡ filled (is_told es) [] ns lines → AreMemories es ns lines made → ⊥
  no_memories ns lines made once none are = none_filled (is_told es) [] ns lines (map memory_line made) once (sym none) (memory_entries ns lines made are)

-- ---- fields

module _ (g : Drawn AnyView) (kept : Kept) (ns : List ℕ) (live : ns ≡ reverse (numbers g.edges)) where
  -- fields of which just this is told
  pub are_kept : (p : Parts AnyView) → IsGraph g → p.graph ≡ g → p.layout.operators ≡ kept.layout → map stored_line p.stored ≡ kept.stored → (numbers_in p.aux ≡ ns) × (auxes_told p.aux ≡ kept.auxes)
      → AreMemories g.edges ns kept.memories p.memories → p.ids.next ≡ kept.next → AreKept g kept p
  are_kept p graph same layout stored auxes memories next =
      let told : memories_told p.graph.edges p.memories ≡ kept.memories = ap (λ (h : Drawn AnyView). memories_told h.edges p.memories) same ∙ memories.told in
      record {
        graph_is = same;
        graph = graph;
        told = λ i. record { layout = layout i; stored = stored i; auxes = auxes.1 i; memories = told i; next = next i };
        others = memories.others;
        auxes = auxes.0 ∙ live;
        memories = memories.numbers ∙ live;
      }

  -- the memories of such fields
  pub kept_memories : (p : Parts AnyView) → AreKept g kept p → AreMemories g.edges ns kept.memories p.memories
  kept_memories p are = record {
    numbers = are.memories ∙ sym live;
    told = ap (λ (h : Drawn AnyView). memories_told h.edges p.memories) (sym are.graph_is) ∙ ap (λ (k : Kept). k.memories) are.told;
    others = are.others;
  }

  -- without auxiliary tables there are no fields
  pub stops_at_auxes : (limit : ℕ) (fault : Fault DumpRefused) → FillsAuxes ns kept.auxes (Err fault) → Keeps g kept limit (Err fault)
  stops_at_auxes limit (Refused r) none = λ p are. none p.aux (are.auxes ∙ sym live) (ap (λ (k : Kept). k.auxes) are.told)
  stops_at_auxes limit (Memory memory) none = tt

  -- nor without memories
  pub stops_at_memories : (limit : ℕ) (fault : Fault DumpRefused) → FillsMemories g.edges ns kept.memories (Err fault) → Keeps g kept limit (Err fault)
  stops_at_memories limit (Refused r) none = λ p are. none p.memories (kept_memories p are)
  stops_at_memories limit (Memory memory) none = tt
