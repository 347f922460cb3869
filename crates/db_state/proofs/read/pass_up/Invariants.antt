use Rattle.std.proofs.Common.{false}
use Rattle.version_graph.specs.Forest.{forest}
use Rattle.layout_rules.proofs.DownLaws.{below}
use Rattle.version_model.specs.Kept.{rows_now}
use Rattle.db_state.specs.Fields.{state_for}
use Rattle.db_state.specs.Parts.{SeenWithin, seen_of}
use Rattle.db_state.specs.inner.Passes.{IsUpTo, passed_in}
use Rattle.db_state.proofs.read.pass_up.Given as goal

abbrev pub invariant-loop-place : goal.invariant-loop-place
invariant-loop-place g l = record {
  so_far : IsUpTo (forest l.db.graph.edges) l.db.layout.operators l.operators (seen_of l.sight (state_for g.O.Operator.meaning l.db).tables) (below l.db.graph.edges l.place) (seen_of l.sight (rows_now l.db.stored l.made));
  took : SeenWithin 2 l.sight (passed_in l.db.layout.operators l.operators false (below l.db.graph.edges l.place)) l.fn.steps l.steps;
}
