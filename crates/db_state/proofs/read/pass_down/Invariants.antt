use Rattle.std.proofs.Common.{◌≤◌, length, true}
use Rattle.version_graph.specs.Forest.{forest}
use Rattle.layout_rules.proofs.DownLaws.{below}
use Rattle.version_model.specs.Kept.{rows_now}
use Rattle.db_state.specs.Fields.{state_for}
use Rattle.db_state.specs.Parts.{seen_of}
use Rattle.db_state.specs.inner.Passes.{IsDownTo}
use Rattle.db_state.proofs.PlaceLemmas.{WentDown}
use Rattle.db_state.proofs.read.pass_down.Given as goal

abbrev pub invariant-loop-left : goal.invariant-loop-left
invariant-loop-left g l = record {
  within : l.left ≤ length l.db.graph.edges;
  so_far : IsDownTo (forest l.db.graph.edges) l.db.layout.operators l.operators (seen_of l.sight (state_for g.O.Operator.meaning l.db).tables) (below l.db.graph.edges l.left) (seen_of l.sight (rows_now l.db.stored l.made));
  took : WentDown l.db.graph.edges l.db.layout.operators l.operators true l.sight l.left l.fn.steps l.steps;
}

abbrev pub decreases-loop-left : goal.decreases-loop-left
decreases-loop-left g l = l.left
