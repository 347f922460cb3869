use Rattle.std.proofs.Common.{◌≤◌, length, take}
use Rattle.version_model.specs.Calls.{made_state}
use Rattle.db_state.specs.Calls.{AreAuxesOf}
use Rattle.db_state.proofs.BoundLaws.{AuxesSoFar}
use Rattle.db_state.proofs.auxes.auxes_in.Given as goal

abbrev pub invariant-loop-number : goal.invariant-loop-number
invariant-loop-number g l = record {
  so_far : AreAuxesOf g.O.Operator.meaning l.graph.edges l.layout.operators (made_state l.before l.made) (take l.number-index l.operators) l.auxes;
  inside : l.number-index ≤ length l.operators;
  took : AuxesSoFar g.O.Operator.meaning l.graph.edges (made_state l.before l.made) l.operators l.number-index l.fn.steps l.steps;
}
