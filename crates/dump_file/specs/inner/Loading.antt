-- What the calls that load a dump ensure.
use Rattle.std.specs.Prelude.{◌≡◌, ℕ, Bool, List, Result, Ok, Err, ⊤, map}
use mathlib.Core.List.{reverse}
use Rattle.par_base.specs.declared.fault.Fault.{Fault}
use Rattle.par_base.specs.declared.fault.Fault.TheVariants.{Refused, Memory}
use Rattle.row_store.specs.Rows.{Rows}
use Rattle.id_memory.specs.Pairs.{Pairs}
use Rattle.id_memory.specs.States.{MemoryState}
use Rattle.version_graph.specs.Edges.{Drawn, IsGraph, numbers}
use Rattle.version_graph.specs.Finished.{IsFinished}
use Rattle.version_graph.specs.declared.parts.Placed.{Placed}
use Rattle.op_law.specs.declared.side.Aux.{Aux}
use Rattle.op_any.specs.Operators.{AnyView}
use Rattle.version_model.specs.declared.numbered.Numbered.{Numbered}
use Rattle.version_model.specs.Kept.{numbers_in}
use Rattle.db_state.specs.declared.parts.Parts.{Parts}
use Rattle.dump_values.specs.Dumps.{Dump, Kept}
use Rattle.dump_graph.specs.Graphs.{AreNames}
use Rattle.dump_graph.specs.Texts.{AreFromTexts}
use Rattle.dump_graph.specs.declared.refused.DumpRefused.{DumpRefused}
use Rattle.dump_file.specs.Stands.{HasNoOther}
use Rattle.dump_file.specs.Told.{aux_line, auxes_told, dump_told, kept_told, memories_told, memory_line, remembers, stored_line}

-- ---- filling in

-- whether a dump tells of the memory of an operator
abbrev pub is_told : List (Placed AnyView) → ℕ × Pairs → Bool
is_told es line = remembers es line.0

-- auxiliary tables for each operator, of which just the lines are told, or a refusal where there are none
abbrev pub FillsAuxes : List ℕ → List (ℕ × List Rows) → Result (List (Numbered Aux)) (Fault DumpRefused) → Type 0
FillsAuxes ns lines (Ok made) = (numbers_in made ≡ ns) × (auxes_told made ≡ lines)
FillsAuxes ns lines (Err (Refused r)) = (made : List (Numbered Aux)) → numbers_in made ≡ ns → auxes_told made ≡ lines → ⊥
FillsAuxes ns lines (Err (Memory memory)) = ⊤

-- a memory for each operator, of which just the lines are told
pub record AreMemories (es : List (Placed AnyView)) (ns : List ℕ) (lines : List (ℕ × Pairs)) (made : List (Numbered MemoryState)) : Type 0 where
  pub numbers : numbers_in made ≡ ns
  pub told : memories_told es made ≡ lines
  pub others : HasNoOther es made

-- such memories, or a refusal where there are none
abbrev pub FillsMemories : List (Placed AnyView) → List ℕ → List (ℕ × Pairs) → Result (List (Numbered MemoryState)) (Fault DumpRefused) → Type 0
FillsMemories es ns lines (Ok made) = AreMemories es ns lines made
FillsMemories es ns lines (Err (Refused r)) = (made : List (Numbered MemoryState)) → AreMemories es ns lines made → ⊥
FillsMemories es ns lines (Err (Memory memory)) = ⊤

-- ---- the fields

-- fields over a graph with entries for each operator, of which just this is told
pub record AreKept (g : Drawn AnyView) (kept : Kept) (p : Parts AnyView) : Type 0 where
  pub graph_is : p.graph ≡ g
  pub graph : IsGraph g
  pub told : kept_told p ≡ kept
  pub others : HasNoOther g.edges p.memories
  pub auxes : numbers_in p.aux ≡ reverse (numbers g.edges)
  pub memories : numbers_in p.memories ≡ reverse (numbers g.edges)

-- such fields with this limit, or a refusal where there are none
abbrev pub Keeps : Drawn AnyView → Kept → ℕ → Result (Parts AnyView) (Fault DumpRefused) → Type 0
Keeps g kept limit (Ok p) = AreKept g kept p × (p.ids.limit ≡ limit)
Keeps g kept limit (Err (Refused r)) = (p : Parts AnyView) → AreKept g kept p → ⊥
Keeps g kept limit (Err (Memory memory)) = ⊤

-- fields of which the dump tells just what they are, with a finished graph whose operators are built from their texts; whether tables belong together is left open
pub record AreFields (dump : Dump) (p : Parts AnyView) : Type 0 where
  pub told : dump_told p ≡ dump
  pub texts : AreFromTexts p.ids.next p.graph.edges
  pub names : AreNames p.graph.versions
  pub others : HasNoOther p.graph.edges p.memories
  pub graph : IsGraph p.graph
  pub finished : IsFinished p.graph
  pub auxes : numbers_in p.aux ≡ reverse (numbers p.graph.edges)
  pub memories : numbers_in p.memories ≡ reverse (numbers p.graph.edges)

-- two fields are told the same, and have the same graph
pub record IsSame (p q : Parts AnyView) : Type 0 where
  pub graph : p.graph ≡ q.graph
  pub layout : p.layout.operators ≡ q.layout.operators
  pub stored : map stored_line p.stored ≡ map stored_line q.stored
  pub auxes : map aux_line p.aux ≡ map aux_line q.aux
  pub memories : map memory_line p.memories ≡ map memory_line q.memories
  pub next : p.ids.next ≡ q.ids.next

-- there are no other such fields but for spare room and the limit
abbrev pub AreOnly : Dump → Parts AnyView → Type 0
AreOnly dump p = (q : Parts AnyView) → AreFields dump q → IsSame q p

-- such fields with this limit, or a refusal where there are none
abbrev pub MakesFields : Dump → ℕ → Result (Parts AnyView) (Fault DumpRefused) → Type 0
MakesFields dump limit (Ok p) = AreFields dump p × AreOnly dump p × (p.ids.limit ≡ limit)
MakesFields dump limit (Err (Refused r)) = (p : Parts AnyView) → AreFields dump p → ⊥
MakesFields dump limit (Err (Memory memory)) = ⊤
