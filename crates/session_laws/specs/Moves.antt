-- What an answered MATERIALIZE leaves stored, and where one in steps leads.
use Rattle.std.specs.Prelude.{◌≡◌, ℕ, true, false, List, Option, Some, None, Ok, ⊤}
use Rattle.par_base.specs.declared.limits.Target.{Target}
use Rattle.statements.specs.Views.{Materialize}
use Rattle.version_graph.specs.Sets.{In}
use Rattle.version_graph.specs.Tables.{TableVersion}
use Rattle.version_graph.specs.Edges.{AreEdges, Drawn, set_named, working}
use Rattle.version_graph.specs.Forest.{forest}
use Rattle.op_any.specs.Operators.{AnyView}
use Rattle.layout_rules.specs.Layouts.{IsStored}
use Rattle.migration.specs.Pending.{goal_of}
use Rattle.engine_sessions.specs.Act.{act}
use Rattle.engine_sessions.specs.Standing.{Standing}
use Rattle.engine_sessions.specs.declared.answer.Answer.{Answer}

-- the table has the name, where one is given
abbrev pub IsOfName : Option (List ℕ) → TableVersion → Type 0
IsOfName None t = ⊤
IsOfName (Some name) t = t.heading.name ≡ name

-- a target names a table: one of its version's tables, and that of the name where one is given
pub record IsNamed (g : Drawn AnyView) (target : Target) (t : TableVersion) : Type 0 where
  pub set : ℕ
  pub version : set_named g.versions target.version ≡ Some set
  pub held : In t (working g.edges set)
  pub named : IsOfName target.table t

-- no data has changed, and each table that is named is stored
pub record StoresNamed (s : Standing) (named : List Target) (next : Standing) : Type 0 where
  pub same : next.laid.database ≡ s.laid.database
  pub stored : (target : Target) (t : TableVersion) → In target named → IsNamed s.laid.database.graph target t
      → IsStored (forest s.laid.database.graph.edges) next.laid.layout t.number

-- so it is after each MATERIALIZE that is answered, in every session
abbrev pub MovesStoreNamed : Type 0
MovesStoreNamed = (s : Standing) (named : List Target) (answer : Answer × Standing) → AreEdges s.laid.database.graph.edges
    → act s (Materialize named false) ≡ Ok answer → StoresNamed s named answer.1

-- neither data nor layout have changed, and each table that is named is stored in the layout to which leads what is pending
pub record LeadsToNamed (s : Standing) (named : List Target) (next : Standing) : Type 0 where
  pub same : next.laid ≡ s.laid
  pub stored : (target : Target) (t : TableVersion) → In target named → IsNamed s.laid.database.graph target t
      → IsStored (forest s.laid.database.graph.edges) (goal_of s.laid.database.graph.edges s.laid.layout next.pending) t.number

-- so it is after each MATERIALIZE .. IN STEPS
abbrev pub StartsLeadToNamed : Type 0
StartsLeadToNamed = (s : Standing) (named : List Target) (answer : Answer × Standing) → AreEdges s.laid.database.graph.edges
    → act s (Materialize named true) ≡ Ok answer → LeadsToNamed s named answer.1
