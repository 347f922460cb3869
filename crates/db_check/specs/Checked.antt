-- When fields are a valid database, and what their check supposes and answers.
use Rattle.std.specs.Prelude.{◌≡◌, ◌↔◌, ℕ, map, Result, Ok, Err, ⊤}
use mathlib.Core.List.{reverse}
use Rattle.par_base.specs.declared.fault.Fault.{Fault}
use Rattle.par_base.specs.declared.fault.Fault.TheVariants.{Refused, Memory}
use Rattle.version_graph.specs.Sets.{In, Each}
use Rattle.version_graph.specs.Edges.{IsGraph, Rises, numbers}
use Rattle.version_graph.specs.Finished.{IsFinished}
use Rattle.version_graph.specs.Forest.{Link, forest}
use Rattle.op_law.specs.Meaning.{Meaning}
use Rattle.layout_rules.specs.Layouts.{IsStored, IsValid}
use Rattle.version_model.specs.Kept.{HasSides, numbers_in}
use Rattle.version_model.specs.Sound.{IsSound}
use Rattle.version_model.specs.States.{State, headings}
use Rattle.storage_law.specs.Reading.{ReadsSources}
use Rattle.storage_law.specs.Storage.{Stands}
use Rattle.db_state.specs.Fields.{IsDatabase, storage_in}
use Rattle.db_state.specs.declared.parts.Parts.{Parts}
use Rattle.db_check.specs.declared.checking.NotValid.{NotValid}

-- what the check supposes: a finished graph, whose operators are built for their tables and closed for the next identifier
pub record IsBuilt {O : Type 0} (meaning : O → Meaning) (p : Parts O) : Type 0 where
  pub reads : ReadsSources meaning
  pub graph : IsGraph p.graph
  pub finished : IsFinished p.graph
  pub sides : Each HasSides (forest p.graph.edges)
  pub fits : Each (λ (e : Link O). (meaning e.operator).Fits (map (headings p.graph.edges) e.sources) (map (headings p.graph.edges) e.targets)) (forest p.graph.edges)
  pub closed : Each (λ (e : Link O). (meaning e.operator).Closed p.ids.next) (forest p.graph.edges)

-- the lists have an entry for each table that the layout stores and for each operator, ascending
pub record AreEntries {O : Type 0} (p : Parts O) : Type 0 where
  pub tables : (t : ℕ) → In t (numbers_in p.stored) ↔ IsStored (forest p.graph.edges) p.layout.operators t
  pub tables_ascending : Rises 0 (numbers_in p.stored)
  pub auxes : numbers_in p.aux ≡ reverse (numbers p.graph.edges)
  pub memories : numbers_in p.memories ≡ reverse (numbers p.graph.edges)

-- so they have, and the layout is valid and ascends
pub record IsListed {O : Type 0} (p : Parts O) : Type 0 where
  pub valid : IsValid (forest p.graph.edges) p.layout.operators
  pub ascending : Rises 0 p.layout.operators
  pub entries : AreEntries p

-- A VALID DATABASE: there are tables for all table versions, with the given memories, that the fields store and that may stand before the next identifier
pub record IsValidParts {O : Type 0} (meaning : O → Meaning) (p : Parts O) : Type 0 where
  pub listed : IsListed p
  pub state : State
  pub stands : Stands meaning p.graph.edges (storage_in p) state
  pub sound : IsSound meaning p.graph.edges state
  pub next : p.ids.next ≡ state.next

-- a database is what a valid one is
abbrev pub ValidIsDatabase : {O : Type 0} → (O → Meaning) → Type 0
ValidIsDatabase {O} meaning = (p : Parts O) → IsBuilt meaning p → IsDatabase meaning p ↔ IsValidParts meaning p

-- the answer of a check: the database of these fields, or a refusal exactly where they are none
abbrev pub Checks : {O : Type 0} → (O → Meaning) → Parts O → Result (Parts O) (Fault NotValid) → Type 0
Checks meaning p (Ok db) = IsDatabase meaning p × (db ≡ p)
Checks meaning p (Err (Refused r)) = IsDatabase meaning p → ⊥
Checks meaning p (Err (Memory memory)) = ⊤
