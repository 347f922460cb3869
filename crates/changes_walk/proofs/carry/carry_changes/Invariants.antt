use Rattle.std.proofs.Common.{◌≡◌, ◌≤◌, take}
use Rattle.version_graph.specs.Forest.{forest, walk}
use Rattle.op_law.specs.Calls.{first_refused}
use Rattle.version_model.specs.Steps.{run}
use Rattle.changes_walk.specs.Changing.{AreOfState, changing_state}
use Rattle.changes_walk.proofs.NamedLemmas.{NamedSoFar}
use Rattle.changes_walk.proofs.carry.carry_changes.Given as goal

abbrev pub invariant-loop-step : goal.invariant-loop-step
invariant-loop-step g l = record {
  so_far : changing_state (g.D.StateRead.state l.rows) l.made ≡ run g.O.Operator.meaning (g.D.StateRead.state l.rows) (changing_state (g.D.StateRead.state l.rows) l.fn.made) (take l.step-index (walk (forest l.graph.edges) l.set));
  within : l.made.ids.next ≤ first_refused l.fn.made.ids;
  limit : l.made.ids.limit ≡ l.fn.made.ids.limit;
  fit : AreOfState (g.D.StateRead.state l.rows) l.made.tables;
  named : NamedSoFar g.O.Operator.meaning l.operators (walk (forest l.graph.edges) l.set) l.fn.made l.made l.step-index l.fn.steps l.steps;
}
