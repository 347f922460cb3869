-- What an answered MATERIALIZE leaves stored, and where one in steps leads.
use Rattle.std.specs.Prelude.{◌≡◌, true, false, List, Ok}
use Rattle.par_base.specs.declared.limits.Target.{Target}
use Rattle.statements.specs.Views.{Materialize}
use Rattle.version_graph.specs.Edges.{AreEdges}
use Rattle.session_laws.specs.Moves.{LeadsToNamed, StoresNamed}
use Rattle.engine_transactions.specs.Answer.{Answer}
use Rattle.engine_transactions.specs.Act.{act}
use Rattle.engine_transactions.specs.Standing.{Standing}

-- after each MATERIALIZE that is answered, whatever transactions are open, no data has changed, and each table that is named is stored
abbrev pub MovesStoreNamed : Type 0
MovesStoreNamed = (s : Standing) (named : List Target) (answer : Answer × Standing) → AreEdges s.sessions.laid.database.graph.edges
    → act s (Materialize named false) ≡ Ok answer → StoresNamed s.sessions named answer.1.sessions

-- after each MATERIALIZE .. IN STEPS nothing has changed but what is pending, which leads to a layout in which they are
abbrev pub StartsLeadToNamed : Type 0
StartsLeadToNamed = (s : Standing) (named : List Target) (answer : Answer × Standing) → AreEdges s.sessions.laid.database.graph.edges
    → act s (Materialize named true) ≡ Ok answer → LeadsToNamed s.sessions named answer.1.sessions
