-- What an evolution is planned to add, before a database changes.
use Rattle.std.specs.Prelude.{◌≡◌, ℕ, ◌<◌, List, length, Option, Result, Ok, Err, ⊤}
use Rattle.par_base.specs.declared.fault.Fault.{Fault}
use Rattle.par_base.specs.declared.fault.Fault.TheVariants.{Refused, Memory}
use Rattle.par_base.specs.declared.refusal.Refusal.{Refusal}
use Rattle.statements.specs.Views.{OpView}
use Rattle.version_graph.specs.Edges.{Drawn}
use Rattle.version_graph.specs.declared.parts.Edge.{Edge}
use Rattle.par_base.specs.Checked.{Gives}
use Rattle.op_any.specs.Operators.{AnyView, any_meaning}
use Rattle.version_model.specs.Databases.{Evolves, MayEvolveTo}
use Rattle.engine_state.specs.AnyDatabase.{AnyDatabase}
use Rattle.engine_versions.specs.Evolve.{created}

-- a database may evolve by these edges, and where it does so it has what the model creates
pub record IsPlanned (d : AnyDatabase) (name : List ℕ) (from : Option (List ℕ)) (texts : List OpView) (edges : List (Edge AnyView)) : Type 0 where
  pub some : 0 < length edges
  pub may : MayEvolveTo any_meaning d from edges
  pub gives : (result : Result (Unit {0}) (Fault Refusal)) (new : AnyDatabase) → Evolves any_meaning d name from edges result new → Gives (λ _. new) result (created d name from texts)

-- a property of every database with this graph and this next identifier
abbrev pub OnEach : Drawn AnyView → ℕ → (AnyDatabase → Type 0) → Type 0
OnEach g next P = (d : AnyDatabase) → d.graph ≡ g → d.state.next ≡ next → P d

-- the edges of the operators, or the first refusal
abbrev pub PlansEdges : Drawn AnyView → ℕ → List ℕ → Option (List ℕ) → List OpView → Result (List (Edge AnyView)) (Fault Refusal) → Type 0
PlansEdges g next name from texts (Ok edges) = OnEach g next (λ d. IsPlanned d name from texts edges)
PlansEdges g next name from texts (Err (Refused r)) = OnEach g next (λ d. created d name from texts ≡ Err r)
PlansEdges g next name from texts (Err (Memory memory)) = ⊤
