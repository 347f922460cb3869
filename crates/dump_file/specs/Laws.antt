-- A database stands for its own dump, and a dump is of one database.
use Rattle.std.specs.Prelude.{◌≡◌}
use Rattle.serde_json.specs.Data.{Data}
use Rattle.dump_values.specs.Laws.{DumpFits}
use Rattle.op_any.specs.Operators.{AnyView, any_meaning}
use Rattle.op_any.specs.BuiltOn.{AreBuiltOn}
use Rattle.db_state.specs.Fields.{IsDatabase, database_for}
use Rattle.db_state.specs.declared.parts.Parts.{Parts}
use Rattle.dump_file.specs.Told.{database_json, dump_told}
use Rattle.dump_file.specs.States.{state_told}
use Rattle.dump_graph.specs.Texts.{AreFromTexts}
use Rattle.dump_graph.specs.Graphs.{AreNames}
use Rattle.dump_file.specs.Stands.{HasNoOther, Stands}

-- operators that aren't on a condition, and are built from their texts, remember nothing
abbrev pub OthersForget : Type 0
OthersForget = (p : Parts AnyView) → IsDatabase any_meaning p → AreBuiltOn p.ids.next p.graph.edges → HasNoOther p.graph.edges p.memories

-- a database as dumps have it: valid, its operators built from their texts, its versions named by names, and its numbers, rows and memories such as JSON tells
pub record IsDumped (p : Parts AnyView) : Type 0 where
  pub database : IsDatabase any_meaning p
  pub texts : AreFromTexts p.ids.next p.graph.edges
  pub names : AreNames p.graph.versions
  pub fits : DumpFits (dump_told p)

-- it stands for the JSON that is dumped of it
abbrev pub DumpStands : Type 0
DumpStands = (p : Parts AnyView) → IsDumped p → Stands (database_json p) p

-- WHAT IS DUMPED OF A DATABASE IS ITS STATE, under its layout
abbrev pub DumpsTellTheState : Type 0
DumpsTellTheState = (p : Parts AnyView) → IsDatabase any_meaning p → dump_told p ≡ state_told (database_for any_meaning p) p.layout.operators

-- both are one database of the model, with one layout
pub record AreOneDatabase (p q : Parts AnyView) : Type 0 where
  pub model : database_for any_meaning p ≡ database_for any_meaning q
  pub layout : p.layout.operators ≡ q.layout.operators

-- A DUMP IS OF ONE DATABASE, but for the greatest identifier that may be drawn, and for room
abbrev pub DumpsAreOfOneDatabase : Type 0
DumpsAreOfOneDatabase = (d : Data) (p q : Parts AnyView) → Stands d p → Stands d q → p.ids.limit ≡ q.ids.limit → AreOneDatabase p q

-- with one graph, whatever may be drawn
pub record AreOneGraph (p q : Parts AnyView) : Type 0 where
  pub graph : p.graph ≡ q.graph
  pub layout : p.layout.operators ≡ q.layout.operators

abbrev pub DumpsAreOfOneGraph : Type 0
DumpsAreOfOneGraph = (d : Data) (p q : Parts AnyView) → Stands d p → Stands d q → AreOneGraph p q
