-- What inner calls ensure.
use Rattle.std.specs.Prelude.{ℕ, ◌≤◌, ◌^◌, List, [], ◌∷◌}
use Rattle.row_store.specs.Rows.{Rows}
use Rattle.id_memory.specs.Pairs.{Pairs}
use Rattle.id_memory.specs.States.{MemoryState}
use Rattle.version_graph.specs.declared.parts.Placed.{Placed}
use Rattle.op_law.specs.declared.side.Aux.{Aux}
use Rattle.op_any.specs.Operators.{AnyView}
use Rattle.version_model.specs.declared.numbered.Numbered.{Numbered}
use Rattle.db_state.specs.declared.parts.Parts.{Parts}
use Rattle.dump_values.specs.Laws.{NumberFits}
use Rattle.dump_file.specs.Told.{auxes_told, memories_told}

-- what is told of the auxiliary tables of one operator
abbrev pub aux_told : Numbered Aux → List (ℕ × List Rows)
aux_told i = auxes_told (i ∷ [])

-- what is told of the memory of one operator
abbrev pub memory_told : List (Placed AnyView) → Numbered MemoryState → List (ℕ × Pairs)
memory_told es i = memories_told es (i ∷ [])

-- ---- the sizes of numbers, as far as their types alone say them

-- the greatest numbers have 32 bits, and the next identifier is at most 2^63
pub record HasWords (p : Parts AnyView) : Type 0 where
  pub last_operator : NumberFits p.graph.last_operator
  pub last_table : NumberFits p.graph.last_table
  pub at_most : p.ids.next ≤ 2 ^ 63
