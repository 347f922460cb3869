-- When a database stands for a dump.
use Rattle.std.specs.Prelude.{◌≡◌, ℕ, List, [], false, Some, Result, Ok, Err, ⊤}
use Rattle.par_base.specs.declared.fault.Fault.{Fault}
use Rattle.par_base.specs.declared.fault.Fault.TheVariants.{Refused, Memory}
use Rattle.id_memory.specs.States.{MemoryState}
use Rattle.serde_json.specs.Data.{Data}
use Rattle.version_graph.specs.Sets.{Each}
use Rattle.version_graph.specs.declared.parts.Placed.{Placed}
use Rattle.op_any.specs.Operators.{AnyView, any_meaning}
use Rattle.version_model.specs.declared.numbered.Numbered.{Numbered}
use Rattle.db_state.specs.Fields.{IsDatabase}
use Rattle.db_state.specs.declared.parts.Parts.{Parts}
use Rattle.dump_values.specs.Dumps.{Dump, dump_of}
use Rattle.dump_graph.specs.Texts.{AreFromTexts}
use Rattle.dump_graph.specs.Graphs.{AreNames}
use Rattle.dump_graph.specs.declared.refused.DumpRefused.{DumpRefused}
use Rattle.dump_file.specs.Told.{dump_told, remembers}

-- operators whose memories a dump leaves out have none
abbrev pub HasNoOther : List (Placed AnyView) → List (Numbered MemoryState) → Type 0
HasNoOther es memories = Each (λ (i : Numbered MemoryState). remembers es i.number ≡ false → i.value.entries ≡ []) memories

-- A DATABASE STANDS FOR A DUMP: it is valid, its operators are built from their texts, and the dump tells just what it is
pub record Stands (d : Data) (p : Parts AnyView) : Type 0 where
  pub told : dump_of d ≡ Some (dump_told p)
  pub texts : AreFromTexts p.ids.next p.graph.edges
  pub names : AreNames p.graph.versions
  pub others : HasNoOther p.graph.edges p.memories
  pub database : IsDatabase any_meaning p

-- what loading answers: the database that stands for the JSON, with the limit that was given, or a refusal exactly where there is none
abbrev pub Loads : Data → ℕ → Result (Parts AnyView) (Fault DumpRefused) → Type 0
Loads d limit (Ok db) = Stands d db × (db.ids.limit ≡ limit)
Loads d limit (Err (Refused r)) = (p : Parts AnyView) → Stands d p → ⊥
Loads d limit (Err (Memory memory)) = ⊤

-- what loading answers of what was read of a dump: that of any JSON of which this was read
unfoldable pub LoadsDump : Dump → ℕ → Result (Parts AnyView) (Fault DumpRefused) → Type 0
LoadsDump dump limit loaded = (d : Data) → dump_of d ≡ Some dump → Loads d limit loaded
