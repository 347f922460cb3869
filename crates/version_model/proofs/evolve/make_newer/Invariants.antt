use Rattle.version_model.proofs.MakingLaws.{SoFar}
use Rattle.version_model.proofs.evolve.make_newer.Given as goal

abbrev pub invariant-loop-place : goal.invariant-loop-place
invariant-loop-place g l = SoFar g.O.Operator.meaning l.graph.edges l.before l.fn.ids l.first l.place l.made
