-- The costs of versions by a plan.
use Rattle.std.specs.Prelude.{◌≡◌, ℕ, List, filter, map}
use Rattle.version_graph.specs.Edges.{Drawn, Rises}
use Rattle.version_graph.specs.declared.parts.Step.{Step}
use Rattle.layout_planner.specs.Costs.{creates, version_cost}
use Rattle.layout_planner.specs.declared.planning.Plan.{Plan}
use Rattle.layout_planner.specs.declared.planning.TableCount.{TableCount}
use Rattle.layout_planner.specs.declared.planning.VersionCost.{VersionCost}
use Rattle.layout_planner.specs.inner.Walked.{is_walked}

-- it starts from the CREATE TABLE operators, and its tables ascend
pub record IsPlan {O : Type 0} (g : Drawn O) (plan : Plan) : Type 0 where
  pub creates : plan.creates.now.operators ≡ creates g.edges
  pub rising : Rises 0 plan.tables.now

-- those of these versions on walked operators, each with its cost over these tables
abbrev pub walked_costs : {O : Type 0} → Drawn O → List Step → List ℕ → List TableCount → List (List ℕ × ℕ) → List VersionCost
walked_costs g steps ts counts versions = map (λ (v : List ℕ × ℕ). version_cost g counts ts v.0) (filter (λ (v : List ℕ × ℕ). is_walked steps v.1) versions)

-- those of a plan
abbrev pub planned : {O : Type 0} → Drawn O → Plan → List (List ℕ × ℕ) → List VersionCost
planned g plan versions = walked_costs g plan.steps.now plan.tables.now plan.counts.now versions
